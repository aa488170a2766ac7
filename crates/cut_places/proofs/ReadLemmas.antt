-- Whether reads of files may be answered so, by the lines that are held of them.
use Rattle.std.proofs.Common.{◌≡◌, inl, inr, ℕ, ◌+◌, ◌-◌, ◌*◌, ◌/◌, ◌==◌, ◌≤◌, ◌&&◌, ◌||◌, Bool, true, false, cond, not, Option, Some, None, List, [], ◌∷◌, length, nat_lt, refl, sym, ap, subst, ◌∙◌, arith}
use Rattle.std.specs.List.{list_all, list_any, range_with_len}
use Rattle.std.specs.Str.{bytes_eq}
use Rattle.std.proofs.lemmas.Bool.{and_from, and_parts, eqb-true}
use Rattle.std.proofs.lemmas.Slice.Eq.{bytes_eq-Decides}
use Rattle.nvm_model.specs.Blocks.{first_there}
use Rattle.nvm_model.specs.Cell.{touches}
use Rattle.nvm_model.specs.Listing.{AreAlike, file_name, file_of, has_file}
use Rattle.nvm_model.specs.Page.{Page}
use Rattle.nvm_model.specs.Storage.{File}
use Rattle.nvm_model.proofs.AlikeLemmas.{alike-found, alike-missing}
use Rattle.nvm_model.proofs.FileLemmas.{file_of-none}
use Rattle.page_lines.proofs.LoopLemmas.{touches-within, within-touches}
use Rattle.reply_text.specs.declared.reply.Why.{Why}
use Rattle.reply_text.specs.declared.reply.Why.TheVariants as because
use Rattle.sights.specs.MachineModel.OnPages.{pages_named}
use Rattle.sights.specs.Outcomes.Files.{FileRead, is_file_reply, is_reply_of, reads_of}
use Rattle.sights.specs.Outcomes.Pages.{PageRead, PageReply, all_lines_read, is_refused_for, is_reply, is_reply_by, lines_read}
use Rattle.sights.specs.Outcomes.Pages.PageReply.{Shows, Poison, Refuses}
use Rattle.cut_places.specs.declared.line.FileLine.{FileLine}
use Rattle.cut_places.specs.FileFitting.{looks_at, read_passes, reads_pass, seen_pass}
use Rattle.cut_places.specs.SeesFiles.{SeesFile, are_held, is_held, line_numbers}
use Rattle.cut_places.specs.FilesState.{FileState, name_seen}
use Rattle.cut_places.proofs.AllLemmas.{IsOneOf, all_alike, all_append, all_of, all_so, one_of_range, range_so, same_test, same_where}

-- the lines that a read looks at
abbrev pub lines_of_read : PageRead → List ℕ
lines_of_read r = lines_read r.start r.len r.reply

-- all lines of the reads of one file are those of each
pub lines_by_read : (f : ℕ → Bool) (name : List ℕ) (reads : List FileRead)
    → list_all f (all_lines_read (reads_of name reads)) ≡ list_all (λ (q : FileRead). not (bytes_eq q.name name) || list_all f (lines_of_read q.pages)) reads
lines_by_read f name [] = refl
lines_by_read f name (q ∷ reads) = by_name (bytes_eq q.name name) (lines_by_read f name reads)
  where
    by_name : (b : Bool) → list_all f (all_lines_read (reads_of name reads)) ≡ list_all (λ (p : FileRead). not (bytes_eq p.name name) || list_all f (lines_of_read p.pages)) reads
        → list_all f (all_lines_read (cond b (q.pages ∷ reads_of name reads) (reads_of name reads)))
        ≡ ((not b || list_all f (lines_of_read q.pages)) && list_all (λ (p : FileRead). not (bytes_eq p.name name) || list_all f (lines_of_read p.pages)) reads)
    by_name true rest = all_append f (lines_of_read q.pages) (all_lines_read (reads_of name reads)) ∙ ap (λ b. list_all f (lines_of_read q.pages) && b) rest
    by_name false rest = rest

-- a read that is given bytes, or a bad line, has some
some_bytes : (size start len : ℕ) (reply : PageReply) → is_reply size (record { start = start; len = len; reply = reply }) ≡ true → ((why : Why) → reply ≡ Refuses why → ⊥) → 1 ≤ len
some_bytes size start len reply is given = by_range (nat_lt size (start + len)) is
  where
    refused : (reply : PageReply) (why : Why) → is_refused_for why reply ≡ true → (other : Why) × (reply ≡ Refuses other)
    refused (Shows bytes) why told = cc told
    refused (Poison at) why told = cc told
    refused (Refuses other) why told = (other, refl)

    not_refused : (why : Why) → is_refused_for why reply ≡ true → 1 ≤ len
    not_refused why told = let found = refused reply why told in absurd (given found.0 found.1)

    by_length : (b : Bool) → (len == 0) ≡ b → is_reply_by (first_there (cond b (Some because.Length) None) (cond (nat_lt 65536 len) (Some because.Limit) None)) start len reply ≡ true → 1 ≤ len
    by_length true zero_len told = not_refused because.Length told
    by_length false some told = grind arith

    by_range : (b : Bool) → is_reply_by (first_there (cond b (Some because.Range) (cond (len == 0) (Some because.Length) None)) (cond (nat_lt 65536 len) (Some because.Limit) None)) start len reply ≡ true → 1 ≤ len
    by_range true told = not_refused because.Range told
    by_range false told = by_length (len == 0) refl told

-- Lines of a file by number, and as they are held.
module _ (P : ℕ → Bool) (test : FileLine → Bool) (lines : List FileLine) (agree : (line : FileLine) → IsOneOf line lines → P line.number ≡ test line) where
  -- one that is held
  found : (passes : ℕ → Bool) (n : ℕ) (some : List FileLine) → ((line : FileLine) → IsOneOf line some → IsOneOf line lines) → list_any (λ m. m == n) (line_numbers some) ≡ true → passes n ≡ true
      → list_all (λ (line : FileLine). not (passes line.number) || test line) some ≡ true → P n ≡ true
  found passes n [] among any pass all = cc any
  found passes n (line ∷ some) among any pass all =
      by_number (line.number == n) refl any (found passes n some (λ other is. among other (inr is)))
    where
      parts : ((not (passes line.number) || test line) ≡ true) × (list_all (λ (other : FileLine). not (passes other.number) || test other) some ≡ true)
      parts = and_parts (not (passes line.number) || test line) (list_all (λ (other : FileLine). not (passes other.number) || test other) some) all

      by_number : (b : Bool) → (line.number == n) ≡ b → (b || list_any (λ m. m == n) (line_numbers some)) ≡ true
          → (list_any (λ m. m == n) (line_numbers some) ≡ true → passes n ≡ true → list_all (λ (other : FileLine). not (passes other.number) || test other) some ≡ true → P n ≡ true) → P n ≡ true
      by_number true is any rest =
          let same : line.number ≡ n = eqb-true line.number n is in
          let shown : (not (passes n) || test line) ≡ true = sym (ap (λ m. not (passes m) || test line) same) ∙ parts.0 in
          sym (ap P same) ∙ agree line (among line (inl refl)) ∙ (sym (ap (λ b. not b || test line) pass) ∙ shown)
      by_number false is any rest = rest any pass parts.1

  module _ (start len : ℕ) (some : 1 ≤ len) (held : list_all (is_held (line_numbers lines)) (lines_read start len (Poison 0)) ≡ true) where
    abbrev count : ℕ
    count = (start + len - 1) / 64 + 1 - start / 64

    range_held : list_all P (range_with_len (start / 64) count) ≡ list_all (λ (line : FileLine). not (touches start len line.number) || test line) lines
    range_held = same_test _ _ there back
      where
        there : list_all P (range_with_len (start / 64) count) ≡ true → list_all (λ (line : FileLine). not (touches start len line.number) || test line) lines ≡ true
        there all = all_so (λ line. true) (λ (line : FileLine). not (touches start len line.number) || test line) lines each always
          where
            by_touch : (line : FileLine) → IsOneOf line lines → (b : Bool) → touches start len line.number ≡ b → (not b || test line) ≡ true
            by_touch line is true touched =
                let place = within-touches start len line.number some touched in sym (agree line is) ∙ one_of_range P (start / 64) count line.number place.0 place.1 all
            by_touch line is false out = refl

            each : (line : FileLine) → IsOneOf line lines → true ≡ true → (not (touches start len line.number) || test line) ≡ true
            each line is t = by_touch line is (touches start len line.number) refl

            always : list_all (λ (line : FileLine). true) lines ≡ true
            always = all_true lines
              where
                all_true : (xs : List FileLine) → list_all (λ (line : FileLine). true) xs ≡ true
                all_true [] = refl
                all_true (x ∷ xs) = all_true xs

        back : list_all (λ (line : FileLine). not (touches start len line.number) || test line) lines ≡ true → list_all P (range_with_len (start / 64) count) ≡ true
        back all = range_so P (start / 64) count (λ k from to. found (touches start len) k lines (λ line is. is) (one_of_range (is_held (line_numbers lines)) (start / 64) count k from to held)
            (touches-within start len k some from to) all)

  pub lines_same : (size : ℕ) (r : PageRead) → is_reply size r ≡ true → list_all (is_held (line_numbers lines)) (lines_of_read r) ≡ true → list_all P (lines_of_read r) ≡ seen_pass test r lines
  lines_same size r is held = by_reply r.reply refl held
    where
      none_looked : (xs : List FileLine) → true ≡ list_all (λ (line : FileLine). not false || test line) xs
      none_looked [] = refl
      none_looked (x ∷ xs) = none_looked xs

      some : ((why : Why) → r.reply ≡ Refuses why → ⊥) → 1 ≤ r.len
      some given = some_bytes size r.start r.len r.reply is given

      by_reply : (reply : PageReply) → r.reply ≡ reply → list_all (is_held (line_numbers lines)) (lines_read r.start r.len reply) ≡ true
          → list_all P (lines_read r.start r.len reply) ≡ list_all (λ (line : FileLine). not (looks_at r.start r.len reply line.number) || test line) lines
      by_reply (Shows bytes) at held = range_held r.start r.len (some (λ why e. cc (sym at ∙ e))) held
      by_reply (Poison offset) at held = range_held r.start r.len (some (λ why e. cc (sym at ∙ e))) held
      by_reply (Refuses why) at held = none_looked lines

-- All reads, by a test of lines by number of each file and one of those that are held.
module _ (R : FileState → File → Type 0) (numbers : List ℕ) (sees : (x : FileState) (y : File) → R x y → SeesFile numbers x y)
    (held : List FileState) (files : List File) (alike : AreAlike name_seen file_name R held files)
    (P : List ℕ → List Page → ℕ → Bool) (test : List ℕ → ℕ → FileLine → Bool)
    (agree : (name : List ℕ) (x : FileState) (y : File) → R x y → (line : FileLine) → IsOneOf line x.lines → P name y.pages line.number ≡ test name x.pages line) where
  abbrev of_file : List ℕ → ℕ → Bool
  of_file name = P name (pages_named name files)

  abbrev one_read : FileRead → Bool
  one_read r = is_file_reply files r && list_all (of_file r.name) (lines_of_read r.pages)

  -- a read of a file that is there or not
  has_there : (name : List ℕ) (o : Option File) → file_of file_name name files ≡ o → (has_file file_name name files) ≡ (elim o [ None ↦ false | Some y ↦ true ])
  has_there name None is = by_has (has_file file_name name files) refl
    where
      some_file : (xs : List File) → has_file file_name name xs ≡ true → file_of file_name name xs ≡ None → ⊥
      some_file [] has none = cc has
      some_file (x ∷ xs) has none = by_test (bytes_eq x.name name) has none (some_file xs)
        where
          by_test : (b : Bool) → (b || has_file file_name name xs) ≡ true → cond b (Some x) (file_of file_name name xs) ≡ None → (has_file file_name name xs ≡ true → file_of file_name name xs ≡ None → ⊥) → ⊥
          by_test true has none rest = cc none
          by_test false has none rest = rest has none

      by_has : (b : Bool) → has_file file_name name files ≡ b → b ≡ false
      by_has true has = absurd (some_file files has is)
      by_has false has = refl
  has_there name (Some y) is = by_has (has_file file_name name files) refl
    where
      by_has : (b : Bool) → has_file file_name name files ≡ b → b ≡ true
      by_has true has = refl
      by_has false has = let none : file_of file_name name files ≡ None = file_of-none file_name name files has in cc

  none_read : (reply : PageReply) (f : ℕ → Bool) (start len : ℕ) → (is_refused_for because.Missing reply && list_all f (lines_read start len reply)) ≡ is_refused_for because.Missing reply
  none_read (Shows bytes) f start len = refl
  none_read (Poison at) f start len = refl
  none_read (Refuses why) f start len = by_test (is_refused_for because.Missing (Refuses why))
    where
      by_test : (b : Bool) → (b && true) ≡ b
      by_test true = refl
      by_test false = refl

  one_same : (r : FileRead) → list_all (is_held numbers) (lines_of_read r.pages) ≡ true → one_read r ≡ read_passes (test r.name) r.pages (file_of name_seen r.name held)
  one_same r all = by_found (file_of name_seen r.name held) refl
    where
      by_file : (x : FileState) (y : File) → R x y → file_of file_name r.name files ≡ Some y
          → one_read r ≡ (is_reply (4096 * x.pages) r.pages && seen_pass (test r.name x.pages) r.pages x.lines)
      by_file x y rel found =
          let known = sees x y rel in
          let pages : pages_named r.name files ≡ y.pages = ap (λ (o : Option File). elim o [ None ↦ [] | Some file ↦ file.pages ]) found in
          let replies : is_file_reply files r ≡ is_reply (4096 * x.pages) r.pages =
          ap (λ b. is_reply_of b (4096 * length (pages_named r.name files)) r.pages) (has_there r.name (Some y) found)
          ∙ ap (λ (ps : List Page). is_reply (4096 * length ps) r.pages) pages ∙ sym (ap (λ k. is_reply (4096 * k) r.pages) known.pages) in
          ap (λ b. b && list_all (P r.name (pages_named r.name files)) (lines_of_read r.pages)) replies
          ∙ ap (λ ps. is_reply (4096 * x.pages) r.pages && list_all (P r.name ps) (lines_of_read r.pages)) pages
          ∙ same_where (is_reply (4096 * x.pages) r.pages) _ _
          (λ is. lines_same (P r.name y.pages) (test r.name x.pages) x.lines (agree r.name x y rel) (4096 * x.pages) r.pages is
          (subst (λ ns. list_all (is_held ns) (lines_of_read r.pages) ≡ true) (sym known.held) all))

      by_found : (o : Option FileState) → file_of name_seen r.name held ≡ o → one_read r ≡ read_passes (test r.name) r.pages o
      by_found None none =
          let missing : file_of file_name r.name files ≡ None = alike-missing name_seen file_name R r.name held files alike none in
          ap (λ b. is_reply_of b (4096 * length (pages_named r.name files)) r.pages && list_all (P r.name (pages_named r.name files)) (lines_of_read r.pages)) (has_there r.name None missing)
          ∙ none_read r.pages.reply (P r.name (pages_named r.name files)) r.pages.start r.pages.len
      by_found (Some x) is = let there = alike-found name_seen file_name R r.name held files alike x is in by_file x there.0 there.3 there.1

  -- all lines of a file are those of its reads
  pub reads_same : (reads : List FileRead) → are_held numbers reads ≡ true
      → list_all (λ (r : FileRead). is_file_reply files r && list_all (P r.name (pages_named r.name files)) (all_lines_read (reads_of r.name reads))) reads ≡ reads_pass test reads held
  reads_same reads all =
      same_test _ (list_all one_read reads) there back
      ∙ all_alike one_read (λ (r : FileRead). read_passes (test r.name) r.pages (file_of name_seen r.name held)) reads
      (λ r is. one_same r (all_of (λ (q : FileRead). list_all (is_held numbers) (lines_of_read q.pages)) r reads all is))
    where
      whole : FileRead → Bool
      whole r = is_file_reply files r && list_all (of_file r.name) (all_lines_read (reads_of r.name reads))

      own_name : (b : Bool) (c : Bool) → b ≡ true → (not b || c) ≡ true → c ≡ true
      own_name true c is so = so
      own_name false c is so = cc is

      there : list_all whole reads ≡ true → list_all one_read reads ≡ true
      there = all_so whole one_read reads
          (λ r is so.
          let parts = and_parts (is_file_reply files r) (list_all (of_file r.name) (all_lines_read (reads_of r.name reads))) so in
          let by_read = sym (lines_by_read (of_file r.name) r.name reads) ∙ parts.1 in
          and_from (is_file_reply files r) _ parts.0
          (own_name (bytes_eq r.name r.name) _ ((bytes_eq-Decides r.name r.name).1 refl)
          (all_of (λ (q : FileRead). not (bytes_eq q.name r.name) || list_all (of_file r.name) (lines_of_read q.pages)) r reads by_read is)))

      other_name : (name : List ℕ) (q : FileRead) → list_all (of_file q.name) (lines_of_read q.pages) ≡ true → (not (bytes_eq q.name name) || list_all (of_file name) (lines_of_read q.pages)) ≡ true
      other_name name q so = by_name (bytes_eq q.name name) refl
        where
          by_name : (b : Bool) → bytes_eq q.name name ≡ b → (not b || list_all (of_file name) (lines_of_read q.pages)) ≡ true
          by_name true is = sym (ap (λ n. list_all (of_file n) (lines_of_read q.pages)) ((bytes_eq-Decides q.name name).0 is)) ∙ so
          by_name false is = refl

      back : list_all one_read reads ≡ true → list_all whole reads ≡ true
      back each =
          all_so one_read whole reads
          (λ r is so.
          and_from (is_file_reply files r) _ (and_parts (is_file_reply files r) _ so).0
          (lines_by_read (of_file r.name) r.name reads
          ∙ all_so one_read (λ (q : FileRead). not (bytes_eq q.name r.name) || list_all (of_file r.name) (lines_of_read q.pages)) reads
          (λ q among passes. other_name r.name q (and_parts (is_file_reply files q) (list_all (of_file q.name) (lines_of_read q.pages)) passes).1) each))
          each
