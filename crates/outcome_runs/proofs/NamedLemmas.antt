-- Files listed in order, of which one is put, taken out or renamed.
use Rattle.std.proofs.Common.{◌≡◌, ℕ, suc, ◌+◌, ◌<◌, ◌≤◌, Bool, true, false, cond, not, Option, Some, None, option_map, List, [], ◌∷◌, length, refl, ap, arith}
use Rattle.std.specs.List.{list_all}
use Rattle.std.proofs.lemmas.Bool.{and_from, and_parts, or_from, or_parts}
use Rattle.std.proofs.lemmas.Option.{same_Some}
use Rattle.nvm_base.specs.Names.{is_name}
use Rattle.word_tables.specs.declared.geometry.Geometry.{Geometry}
use Rattle.nvm_model.specs.Files.{with_name}
use Rattle.nvm_model.specs.Listing.{file_name, file_of, has_file, is_before, is_named, put_file, put_some, rename_file, rises, without_file}
use Rattle.nvm_model.specs.Storage.{File}
use Rattle.nvm_model.proofs.RiseLemmas.{rises-put}
use Rattle.outcome_runs.specs.Kept.{AreListed, HaveNames}
use Rattle.outcome_runs.proofs.CountLemmas.{all_used, used}
use Rattle.outcome_runs.proofs.ListedLemmas.{listed_by, used_room}

-- one more file
length_put : (x : File) (files : List File) → length (put_file file_name x files) ≡ suc (length files)
length_put x [] = refl
length_put x (y ∷ files) = by_order (is_before x.name y.name) (length_put x files)
  where
    by_order : (b : Bool) → length (put_file file_name x files) ≡ suc (length files) → length (cond b (x ∷ y ∷ files) (y ∷ put_file file_name x files)) ≡ suc (suc (length files))
    by_order true later = refl
    by_order false later = ap suc later

names_put : (x : File) (files : List File) → is_name x.name ≡ true → length x.pages ≤ 256 → HaveNames files → HaveNames (put_file file_name x files)
names_put x [] right few named = (right, few, tt)
names_put x (y ∷ files) right few named = by_order (is_before x.name y.name) (names_put x files right few named.2)
  where
    by_order : (b : Bool) → HaveNames (put_file file_name x files) → HaveNames (cond b (x ∷ y ∷ files) (y ∷ put_file file_name x files))
    by_order true later = (right, few, named)
    by_order false later = (named.0, named.1, later)

used_put : (x : File) (files : List File) → all_used (put_file file_name x files) ≡ used x.pages + all_used files
used_put x [] = refl
used_put x (y ∷ files) = by_order (is_before x.name y.name) (used_put x files)
  where
    by_order : (b : Bool) → all_used (put_file file_name x files) ≡ used x.pages + all_used files
        → all_used (cond b (x ∷ y ∷ files) (y ∷ put_file file_name x files)) ≡ used x.pages + (used y.pages + all_used files)
    by_order true later = refl
    by_order false later = omega (arith, later)

pub listed_put : (geo : Geometry) (x : File) (files : List File) → is_name x.name ≡ true → length x.pages ≤ 256 → has_file file_name x.name files ≡ false → length files < 64
    → used x.pages + all_used files ≤ geo.fpages → HaveNames files → rises file_name files ≡ true → AreListed geo (put_file file_name x files)
listed_put geo x files right few none more room named up =
    listed_by geo (put_file file_name x files) (omega (arith, length_put x files, more)) (names_put x files right few named) (rises-put file_name x files none up)
    (omega (arith, used_put x files, room))

-- one file fewer
module _ (name : List ℕ) where
  abbrev rest_of : List File → List File
  rest_of files = without_file file_name name files

  fewer : (files : List File) → (length (rest_of files) ≤ length files) × (all_used (rest_of files) ≤ all_used files)
  fewer [] = (omega arith, omega arith)
  fewer (x ∷ files) = by_test (is_named file_name name x) (fewer files)
    where
      by_test : (b : Bool) → (length (rest_of files) ≤ length files) × (all_used (rest_of files) ≤ all_used files)
          → (length (cond (not b) (x ∷ rest_of files) (rest_of files)) ≤ suc (length files)) × (all_used (cond (not b) (x ∷ rest_of files) (rest_of files)) ≤ used x.pages + all_used files)
      by_test true later = (omega (arith, later.0), omega (arith, later.1))
      by_test false later = (omega (arith, later.0), omega (arith, later.1))

  names_without : (files : List File) → HaveNames files → HaveNames (rest_of files)
  names_without [] named = tt
  names_without (x ∷ files) named = by_test (is_named file_name name x) (names_without files named.2)
    where
      by_test : (b : Bool) → HaveNames (rest_of files) → HaveNames (cond (not b) (x ∷ rest_of files) (rest_of files))
      by_test true later = later
      by_test false later = (named.0, named.1, later)

  before_without : (n : List ℕ) (files : List File) → list_all (λ (y : File). is_before n (file_name y)) files ≡ true → list_all (λ (y : File). is_before n (file_name y)) (rest_of files) ≡ true
  before_without n [] all = refl
  before_without n (x ∷ files) all = by_test (is_named file_name name x) (before_without n files parts.1)
    where
      parts : (is_before n x.name ≡ true) × (list_all (λ (y : File). is_before n (file_name y)) files ≡ true)
      parts = and_parts (is_before n x.name) (list_all (λ (y : File). is_before n (file_name y)) files) all

      by_test : (b : Bool) → list_all (λ (y : File). is_before n (file_name y)) (rest_of files) ≡ true
          → list_all (λ (y : File). is_before n (file_name y)) (cond (not b) (x ∷ rest_of files) (rest_of files)) ≡ true
      by_test true later = later
      by_test false later = and_from (is_before n x.name) (list_all (λ (y : File). is_before n (file_name y)) (rest_of files)) parts.0 later

  rises_without : (files : List File) → rises file_name files ≡ true → rises file_name (rest_of files) ≡ true
  rises_without [] up = refl
  rises_without (x ∷ files) up = by_test (is_named file_name name x) (rises_without files parts.1)
    where
      parts : (list_all (λ (y : File). is_before x.name (file_name y)) files ≡ true) × (rises file_name files ≡ true)
      parts = and_parts (list_all (λ (y : File). is_before x.name (file_name y)) files) (rises file_name files) up

      by_test : (b : Bool) → rises file_name (rest_of files) ≡ true → rises file_name (cond (not b) (x ∷ rest_of files) (rest_of files)) ≡ true
      by_test true later = later
      by_test false later = and_from (list_all (λ (y : File). is_before x.name (file_name y)) (rest_of files)) (rises file_name (rest_of files)) (before_without x.name files parts.0) later

  has_without : (to : List ℕ) (files : List File) → has_file file_name to files ≡ false → has_file file_name to (rest_of files) ≡ false
  has_without to [] none = refl
  has_without to (x ∷ files) none = by_test (is_named file_name name x) (has_without to files parts.1)
    where
      parts : (is_named file_name to x ≡ false) × (has_file file_name to files ≡ false)
      parts = or_parts (is_named file_name to x) (has_file file_name to files) none

      by_test : (b : Bool) → has_file file_name to (rest_of files) ≡ false → has_file file_name to (cond (not b) (x ∷ rest_of files) (rest_of files)) ≡ false
      by_test true later = later
      by_test false later = or_from (is_named file_name to x) (has_file file_name to (rest_of files)) parts.0 later

  pub listed_without : (geo : Geometry) (files : List File) → AreListed geo files → AreListed geo (rest_of files)
  listed_without geo files listed =
      let less = fewer files in
      listed_by geo (rest_of files) (omega (arith, less.0, listed.few)) (names_without files listed.each) (rises_without files listed.in_order)
      (omega (arith, less.1, used_room geo files listed))

  -- the one that was there
  found_one : (files : List File) (x : File) → HaveNames files → file_of file_name name files ≡ Some x
      → (length (rest_of files) < length files) × (used x.pages + all_used (rest_of files) ≤ all_used files) × (length x.pages ≤ 256)
  found_one [] x named found = cc found
  found_one (y ∷ files) x named found = by_test (is_named file_name name y) found (λ later. found_one files x named.2 later)
    where
      by_test : (b : Bool) → cond b (Some y) (file_of file_name name files) ≡ Some x
          → (file_of file_name name files ≡ Some x → (length (rest_of files) < length files) × (used x.pages + all_used (rest_of files) ≤ all_used files) × (length x.pages ≤ 256))
          → (length (cond (not b) (y ∷ rest_of files) (rest_of files)) < suc (length files)) × (used x.pages + all_used (cond (not b) (y ∷ rest_of files) (rest_of files)) ≤ used y.pages + all_used files)
          × (length x.pages ≤ 256)
      by_test true here later =
          let same : y ≡ x = same_Some y x here in
          let less = fewer files in
          (omega (arith, less.0), omega (arith, less.1, ap (λ (z : File). used z.pages) same), omega (arith, named.1, ap (λ (z : File). length z.pages) same))
      by_test false there later = let rest = later there in (omega (arith, rest.0), omega (arith, rest.1), rest.2)

  pub listed_renamed : (geo : Geometry) (to : List ℕ) (files : List File) → is_name to ≡ true → has_file file_name to files ≡ false → AreListed geo files
      → AreListed geo (rename_file file_name name (with_name to) files)
  listed_renamed geo to files right none listed = by_found (file_of file_name name files) refl
    where
      by_found : (o : Option File) → file_of file_name name files ≡ o → AreListed geo (put_some file_name (option_map (with_name to) o) (rest_of files))
      by_found None is = listed_without geo files listed
      by_found (Some x) is =
          let one = found_one files x listed.each is in
          listed_put geo (with_name to x) (rest_of files) right one.2 (has_without to files none) (omega (arith, one.0, listed.few)) (omega (arith, one.1, used_room geo files listed))
          (names_without files listed.each) (rises_without files listed.in_order)
