-- Files listed in order, of which one is changed, put, taken out or renamed.
use Rattle.std.proofs.Common.{◌≡◌, ℕ, suc, ◌+◌, ◌≤◌, Bool, true, false, cond, ◌&&◌, Some, List, [], ◌∷◌, length, refl, sym, ap, ap₂, ◌∙◌, arith}
use Rattle.std.specs.Bool.{Decides}
use Rattle.std.specs.List.{list_all}
use Rattle.std.proofs.lemmas.Bool.{and_parts, both_ways, or_from}
use Rattle.std.proofs.lemmas.List.{length-map}
use Rattle.std.proofs.lemmas.Slice.Eq.{bytes_eq-Decides}
use Rattle.nvm_base.specs.Names.{is_name}
use Rattle.word_tables.specs.declared.geometry.Geometry.{Geometry}
use Rattle.nvm_model.specs.Files.{on_pages}
use Rattle.nvm_model.specs.Listing.{AreAlike, change_file, file_name, file_of, has_file, is_before, is_named, rises}
use Rattle.nvm_model.specs.Page.{Page}
use Rattle.nvm_model.specs.Storage.{File}
use Rattle.nvm_model.proofs.FileLemmas.{change-none, named-not}
use Rattle.nvm_model.proofs.OrderLemmas.{before-itself}
use Rattle.machine_model.specs.OnPages.{pages_named}
use Rattle.outcome_runs.specs.Kept.{AreListed, HaveNames}
use Rattle.outcome_runs.proofs.CountLemmas.{all_used, room_used, used}
use Rattle.durable.proofs.NamedPageLemmas.{pages_in}

-- by how many pages are there
pub listed_by : (geo : Geometry) (files : List File) → length files ≤ 64 → HaveNames files → rises file_name files ≡ true → all_used files ≤ geo.fpages → AreListed geo files
listed_by geo files few each up room = record { few = few; each = each; in_order = up; room = omega (arith, room, room_used files) }

pub used_room : (geo : Geometry) (files : List File) → AreListed geo files → all_used files ≤ geo.fpages
used_room geo files listed = omega (arith, listed.room, room_used files)

-- one file changed, which keeps its name
module _ (name : List ℕ) (f : File → File) (keeps : (x : File) → (f x).name ≡ x.name) where
  one_name : (x : File) (b : Bool) → (cond b (f x) x).name ≡ x.name
  one_name x true = keeps x
  one_name x false = refl

  before_changed : (n : List ℕ) (files : List File) → list_all (λ (y : File). is_before n (file_name y)) (change_file file_name name f files) ≡ list_all (λ (y : File). is_before n (file_name y)) files
  before_changed n [] = refl
  before_changed n (x ∷ files) = ap₂ (λ (m : List ℕ) (b : Bool). is_before n m && b) (one_name x (is_named file_name name x)) (before_changed n files)

  rises_changed : (files : List File) → rises file_name (change_file file_name name f files) ≡ rises file_name files
  rises_changed [] = refl
  rises_changed (x ∷ files) =
      ap₂ (λ (a b : Bool). a && b)
      (ap (λ (m : List ℕ). list_all (λ (y : File). is_before m (file_name y)) (change_file file_name name f files)) (one_name x (is_named file_name name x)) ∙ before_changed x.name files)
      (rises_changed files)

  names_changed : ((x : File) → length x.pages ≤ 256 → length (f x).pages ≤ 256) → (files : List File) → HaveNames files → HaveNames (change_file file_name name f files)
  names_changed short [] named = tt
  names_changed short (x ∷ files) named =
      (ap is_name (one_name x (is_named file_name name x)) ∙ named.0, by_test (is_named file_name name x), names_changed short files named.2)
    where
      by_test : (b : Bool) → length (cond b (f x) x).pages ≤ 256
      by_test true = short x named.1
      by_test false = named.1

  pub listed_changed : (geo : Geometry) (files : List File) → ((x : File) → length x.pages ≤ 256 → length (f x).pages ≤ 256) → AreListed geo files
      → all_used (change_file file_name name f files) ≤ geo.fpages → AreListed geo (change_file file_name name f files)
  listed_changed geo files short listed room =
      listed_by geo (change_file file_name name f files) (omega (arith, length-map files (λ x. cond (is_named file_name name x) (f x) x), listed.few)) (names_changed short files listed.each)
      (rises_changed files ∙ listed.in_order) room

  -- it uses no more pages
  used_fewer : ((x : File) → used (f x).pages ≤ used x.pages) → (files : List File) → all_used (change_file file_name name f files) ≤ all_used files
  used_fewer fewer [] = omega arith
  used_fewer fewer (x ∷ files) = let head = by_test (is_named file_name name x) in omega (arith, head, used_fewer fewer files)
    where
      by_test : (b : Bool) → used (cond b (f x) x).pages ≤ used x.pages
      by_test true = fewer x
      by_test false = omega arith

  pub listed_fewer : (geo : Geometry) (files : List File) → ((x : File) → length x.pages ≤ 256 → length (f x).pages ≤ 256) → ((x : File) → used (f x).pages ≤ used x.pages)
      → AreListed geo files → AreListed geo (change_file file_name name f files)
  listed_fewer geo files short fewer listed =
      listed_changed geo files short listed (omega (arith, used_fewer fewer files, used_room geo files listed))

-- no later file has the name of the first
none_after : (name : List ℕ) (first : File) (files : List File) → first.name ≡ name → list_all (λ (file : File). is_before first.name file.name) files ≡ true
    → has_file file_name name files ≡ false
none_after name first [] is after = refl
none_after name first (file ∷ files) is after =
    let parts = and_parts (is_before first.name file.name) _ after in
    let apart : file.name ≡ name → ⊥ = λ same. both_ways (is_before first.name file.name) (ap (is_before first.name) (same ∙ sym is) ∙ before-itself first.name) parts.0 in
    or_from (is_named file_name name file) (has_file file_name name files) (named-not file_name name file apart) (none_after name first files is parts.1)

pub used_one : (name : List ℕ) (g : List Page → List Page) (files : List File) → rises file_name files ≡ true
    → all_used (change_file file_name name (on_pages g) files) + used (pages_named name files) ≤ all_used files + used (g (pages_named name files))
used_one name g [] up = omega arith
used_one name g (x ∷ files) up = by_test (is_named file_name name x) (bytes_eq-Decides x.name name) (used_one name g files parts.1)
  where
    parts : (list_all (λ (y : File). is_before x.name y.name) files ≡ true) × (rises file_name files ≡ true)
    parts = and_parts _ (rises file_name files) up

    changed : List File
    changed = change_file file_name name (on_pages g) files

    by_test : (b : Bool) → Decides b (x.name ≡ name) → all_used changed + used (pages_named name files) ≤ all_used files + used (g (pages_named name files))
        → used (cond b (on_pages g x) x).pages + all_used changed + used (pages_in (cond b (Some x) (file_of file_name name files)))
        ≤ used x.pages + all_used files + used (g (pages_in (cond b (Some x) (file_of file_name name files))))
    by_test true tells rest =
        let same = ap all_used (change-none file_name name (on_pages g) files (none_after name x files (tells.0 refl) parts.0)) in omega (arith, same)
    by_test false tells rest = omega (arith, rest)

-- files that are alike
module _ (R : File → File → Type 0) where
  before_alike : (n : List ℕ) (old new : List File) → AreAlike file_name file_name R old new
      → list_all (λ (y : File). is_before n (file_name y)) new ≡ list_all (λ (y : File). is_before n (file_name y)) old
  before_alike n [] [] alike = refl
  before_alike n [] (y ∷ new) alike = absurd alike
  before_alike n (x ∷ old) [] alike = absurd alike
  before_alike n (x ∷ old) (y ∷ new) alike = ap₂ (λ (m : List ℕ) (b : Bool). is_before n m && b) (sym alike.0) (before_alike n old new alike.2)

  rises_alike : (old new : List File) → AreAlike file_name file_name R old new → rises file_name new ≡ rises file_name old
  rises_alike [] [] alike = refl
  rises_alike [] (y ∷ new) alike = absurd alike
  rises_alike (x ∷ old) [] alike = absurd alike
  rises_alike (x ∷ old) (y ∷ new) alike =
      ap₂ (λ (a b : Bool). a && b) (ap (λ (n : List ℕ). list_all (λ (z : File). is_before n (file_name z)) new) (sym alike.0) ∙ before_alike x.name old new alike.2) (rises_alike old new alike.2)

  number_alike : (old new : List File) → AreAlike file_name file_name R old new → length new ≡ length old
  number_alike [] [] alike = refl
  number_alike [] (y ∷ new) alike = absurd alike
  number_alike (x ∷ old) [] alike = absurd alike
  number_alike (x ∷ old) (y ∷ new) alike = ap suc (number_alike old new alike.2)

  names_alike : ((x y : File) → R x y → length y.pages ≡ length x.pages) → (old new : List File) → AreAlike file_name file_name R old new → HaveNames old → HaveNames new
  names_alike size [] [] alike named = tt
  names_alike size [] (y ∷ new) alike named = absurd alike
  names_alike size (x ∷ old) [] alike named = absurd alike
  names_alike size (x ∷ old) (y ∷ new) alike named =
      (ap is_name (sym alike.0) ∙ named.0, omega (arith, size x y alike.1, named.1), names_alike size old new alike.2 named.2)

  pub listed_alike : (geo : Geometry) (old new : List File) → ((x y : File) → R x y → length y.pages ≡ length x.pages) → AreAlike file_name file_name R old new → AreListed geo old
      → all_used new ≤ geo.fpages → AreListed geo new
  listed_alike geo old new size alike listed room =
      listed_by geo new (omega (arith, number_alike old new alike, listed.few)) (names_alike size old new alike listed.each) (rises_alike old new alike ∙ listed.in_order) room
