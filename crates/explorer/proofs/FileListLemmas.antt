-- The files of a list, one behind the other.
use Rattle.std.proofs.Common.{◌≡◌, ◌+◌, ◌≤◌, ◌<◌, ℕ, zero, suc, true, List, [], ◌∷◌, ◌++◌, Some, drop, get_or, length, map, take, refl, sym, ap, ap₂, subst, ◌∙◌, arith}
use Rattle.std.specs.Prelude.{slice_index}
use Rattle.std.specs.List.{All, list_all}
use Rattle.std.proofs.lemmas.Bool.{and_parts, cond-false, cond-true}
use Rattle.std.proofs.lemmas.List.{map-append, take_all, take_more}
use Rattle.std.proofs.lemmas.List.Folds.{list_all-append}
use Rattle.nvm_base.specs.declared.files.FileEntry.{FileEntry}
use Rattle.nvm_model.specs.Files.{entry_of_file}
use Rattle.nvm_model.specs.Listing.{AreAlike, file_name, file_of, is_before, is_named, rises}
use Rattle.nvm_model.specs.Storage.{File}
use Rattle.nvm_model.proofs.FileLemmas.{named-is, named-not}
use Rattle.nvm_model.proofs.OrderLemmas.{before-itself}
use Rattle.nvm_model.specs.Cell.{Cell}
use Rattle.mappings.specs.Object.{MappingsState}
use Rattle.cut_places.specs.MachineModel.Machine.{Machine}
use Rattle.cut_places.specs.Outcomes.Finds.{armed}
use Rattle.cut_places.specs.declared.line.FileLine.{FileLine}
use Rattle.cut_places.specs.Maps.{uncopied}
use Rattle.cut_places.specs.SeesFiles.{AreLines, SeesFile, SeesFiles, line_numbers}
use Rattle.cut_places.specs.FilesState.{FileState, FilesState, name_seen}
use Rattle.explorer.specs.Files.{HasFewPages, IsListed}
use Rattle.explorer.specs.Starting.{Begins}

-- a file behind others of a list in order is the one of its name
found_behind : (before : List File) (file : File) (later : List File) → rises file_name (before ++ file ∷ later) ≡ true
    → file_of file_name file.name (before ++ file ∷ later) ≡ Some file
found_behind [] file later up = cond-true (is_named file_name file.name file) _ _ (named-is file_name file.name file refl)
found_behind (x ∷ before) file later up =
    let parts = and_parts (list_all (λ (y : File). is_before x.name y.name) (before ++ file ∷ later)) (rises file_name (before ++ file ∷ later)) up in
    let behind = and_parts (list_all (λ (y : File). is_before x.name y.name) before) (list_all (λ (y : File). is_before x.name y.name) (file ∷ later))
    (sym (list_all-append (λ (y : File). is_before x.name y.name) before (file ∷ later)) ∙ parts.0) in
    let first : is_before x.name file.name ≡ true = (and_parts (is_before x.name file.name) _ behind.1).0 in
    let other : x.name ≡ file.name → ⊥ = λ same. cc (sym (before-itself x.name) ∙ ap (is_before x.name) same ∙ first) in
    cond-false (is_named file_name file.name x) _ _ (named-not file_name file.name x other) ∙ found_behind before file later parts.1

-- the file of an entry of a list of all files
pub record HasFile (files : List File) (i : ℕ) (entry : FileEntry) : Type 0 where
  pub file : File
  pub is : entry ≡ entry_of_file file
  pub split : files ≡ take i files ++ file ∷ drop (suc i) files
  pub more : take (suc i) files ≡ take i files ++ file ∷ []

file_at : (files : List File) (i : ℕ) (entry : FileEntry) → i < length (map entry_of_file files) → entry ≡ get_or (map entry_of_file files) i entry → HasFile files i entry
file_at [] i entry lt is = absurd (omega (arith, lt))
file_at (x ∷ files) zero entry lt is = record { file = x; is = is; split = refl; more = refl }
file_at (x ∷ files) (suc i) entry lt is =
    let rest = file_at files i entry (omega (arith, lt)) is in
    record { file = rest.file; is = rest.is; split = ap (λ l. x ∷ l) rest.split; more = ap (λ l. x ∷ l) rest.more }

pub listed_at : (files : List File) (listed : List FileEntry) (i : ℕ) (entry : FileEntry) → rises file_name files ≡ true → listed ≡ map entry_of_file files → i < length listed
    → entry ≡ get_or listed i entry → (has : HasFile files i entry) × IsListed entry has.file files
listed_at files listed i entry up are lt is =
    let below : i < length (map entry_of_file files) = subst (λ (l : List FileEntry). i < length l) are lt in
    let has = file_at files i entry below (is ∙ ap (λ (l : List FileEntry). get_or l i entry) are) in
    let alone : file_of file_name has.file.name files ≡ Some has.file =
    subst (λ (l : List File). file_of file_name has.file.name l ≡ Some has.file) (sym has.split)
    (found_behind (take i files) has.file (drop (suc i) files) (ap (rises file_name) (sym has.split) ∙ up)) in
    (has, record { found = ap (λ (e : FileEntry). file_of file_name e.name files) has.is ∙ alone; size = ap (λ (e : FileEntry). e.pages) has.is })

-- one pair more of files that are alike
pub alike_more : {A B : Type 0} (name : A → List ℕ) (other : B → List ℕ) (R : A → B → Type 0) (xs : List A) (ys : List B) (x : A) (y : B) → AreAlike name other R xs ys
    → name x ≡ other y → R x y → AreAlike name other R (xs ++ x ∷ []) (ys ++ y ∷ [])
alike_more name other R [] [] x y alike same holds = (same, holds, tt)
alike_more name other R [] (b ∷ ys) x y alike same holds = absurd alike
alike_more name other R (a ∷ xs) [] x y alike same holds = absurd alike
alike_more name other R (a ∷ xs) (b ∷ ys) x y alike same holds = (alike.0, alike.1, alike_more name other R xs ys x y alike.2 same holds)

-- that a cut may come changes no file
pub sees_armed : (held : FilesState) (h : Machine) → SeesFiles held h → SeesFiles held (armed h)
sees_armed held h sees = record { files = sees.files; in_order = sees.in_order; mappings = sees.mappings; next = sees.next; handles = sees.handles }

-- One line more of a file, and one file more.
pub lines_more : (f : ℕ → Cell) (lines : List FileLine) (line : FileLine) → AreLines f lines → line.line ≡ f line.number → AreLines f (lines ++ line ∷ [])
lines_more f [] line are is = (is, tt)
lines_more f (x ∷ lines) line are is = (are.0, lines_more f lines line are.1 is)

pub numbers_more : (numbers : List ℕ) (i : ℕ) (lines : List FileLine) (line : FileLine) → i < length numbers → line.number ≡ slice_index numbers i
    → line_numbers lines ≡ take i numbers → line_numbers (lines ++ line ∷ []) ≡ take (i + 1) numbers
numbers_more numbers i lines line lt is are =
    map-append (λ (l : FileLine). l.number) lines (line ∷ []) ∙ ap₂ (λ ns m. ns ++ m ∷ []) are is ∙ sym (take_more numbers i 0 lt)

pub files_more : (numbers : List ℕ) (held : List FileState) (one : FileState) (files : List File) (i : ℕ) (entry : FileEntry) (has : HasFile files i entry)
    → AreAlike name_seen file_name (SeesFile numbers) held (take i files) → one.name ≡ entry.name → SeesFile numbers one has.file
    → AreAlike name_seen file_name (SeesFile numbers) (held ++ one ∷ []) (take (i + 1) files)
files_more numbers held one files i entry has alike named sees =
    let next : i + 1 ≡ suc i = omega arith in
    subst (AreAlike name_seen file_name (SeesFile numbers) (held ++ one ∷ [])) (sym (ap (λ k. take k files) next ∙ has.more))
    (alike_more name_seen file_name (SeesFile numbers) held (take i files) one has.file alike (named ∙ ap (λ (e : FileEntry). e.name) has.is) sees)

pub small_at : (entries : List FileEntry) (i : ℕ) (entry : FileEntry) → All HasFewPages entries → i < length entries → entry ≡ get_or entries i entry → HasFewPages entry
small_at entries i entry small lt is = subst HasFewPages (sym is) (small i entry lt)

pub numbers_all : (numbers : List ℕ) (i : ℕ) (ns : List ℕ) → length numbers ≤ i → ns ≡ take i numbers → ns ≡ numbers
numbers_all numbers i ns all are = are ∙ take_all i numbers all

-- All files are seen, as they were before anything was mapped.
pub sees_all : (held : FilesState) (h : Machine) (k : ℕ) → held.mappings ≡ record { mappings = []; next = 0 } → AreAlike name_seen file_name (SeesFile held.numbers) held.files (take k h.files)
    → length h.files ≤ k → Begins h → SeesFiles held h
sees_all held h k none alike all begins = record {
  files = subst (AreAlike name_seen file_name (SeesFile held.numbers) held.files) (take_all k h.files all) alike;
  in_order = begins.in_order;
  mappings = ap (λ (s : MappingsState). s.mappings) none ∙ ap (map uncopied) (sym begins.mappings);
  next = ap (λ (s : MappingsState). s.next) none ∙ sym begins.handles;
  handles = let first : h.next_handle ≡ 0 = begins.handles in omega (arith, first);
}
