-- The text of files.
use Rattle.std.proofs.Common.{All, true, rules, tests, ◌≡◌, ℕ, ◌+◌, ◌*◌, ◌<◌, ◌≤◌, List, [], ◌∷◌, ◌++◌, length, get_or, drop, arith, decimal, ap, sym, ◌∙◌, length-append}
use Rattle.std.proofs.lemmas.Fmt.{length-decimal-le}
use Rattle.std.proofs.lemmas.List.{at_drop_more}
use Rattle.std.proofs.lemmas.List.Elements.{All-head, All-tail}
use Rattle.nvm_base.specs.Names.{is_name}
use Rattle.nvm_base.specs.declared.files.FileEntry.{FileEntry}
use Rattle.reply_text.specs.Answer.{file_text, files_text}
use Rattle.reply_text.specs.Room.{IsShort}

-- a name has at most 32 bytes
pub name-short : (name : List ℕ) → is_name name ≡ true → length name ≤ 32
name-short name is = search (rules, tests)

length-two : (a b : List ℕ) → length a ≤ 32 → length b ≤ 20 → length (32 ∷ a ++ 58 ∷ b) ≤ 54
length-two a b p q = omega (arith, length-append a (58 ∷ b), p, q)

length-file_text : (file : FileEntry) → IsShort file → length (file_text file) ≤ 54
length-file_text file p = length-two file.name (decimal file.pages) p.0 (length-decimal-le 20 file.pages (omega arith) (omega (arith, p.1)) p.1)

pub length-files_text : (files : List FileEntry) → All IsShort files → length (files_text files) ≤ 54 * length files
length-files_text [] h = omega arith
length-files_text (file ∷ files) h =
    let first = length-file_text file (All-head IsShort file files h) in
    let rest = length-files_text files (All-tail IsShort file files h) in
    omega (arith, length-append (file_text file) (files_text files), first, rest)

-- one file more
pub files_text-more : (i : ℕ) (files : List FileEntry) (file : FileEntry) → i < length files → file ≡ get_or files i file → files_text (drop i files) ≡ file_text file ++ files_text (drop (i + 1) files)
files_text-more i files file h is = at_drop_more files_text files i file h ∙ ap (λ f. file_text f ++ files_text (drop (i + 1) files)) (sym is)
