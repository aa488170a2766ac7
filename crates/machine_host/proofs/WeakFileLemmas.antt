-- How many lines of files are weak, and what changes of the files make of that.
use Rattle.std.proofs.Common.{◌≡◌, ◌≤◌, ◌+◌, ℕ, Bool, true, false, not, cond, Option, Some, None, option_map, List, [], ◌∷◌, refl, sym, ap, ◌∙◌, inl, inr, arith}
use Rattle.std.specs.Bool.{Decides}
use Rattle.std.specs.List.{list_all}
use Rattle.std.proofs.lemmas.Bool.{and_parts, both_ways, cases_Bool, or_from}
use Rattle.std.proofs.lemmas.List.Sums.{sum_by-cons}
use Rattle.std.proofs.lemmas.Option.{none-some, same_Some}
use Rattle.std.proofs.lemmas.Slice.Eq.{bytes_eq-Decides}
use Rattle.nvm_model.specs.Events.{count_in_pages, is_weak_cell, weak_file_lines}
use Rattle.nvm_model.specs.Files.{new_file, on_pages, with_name}
use Rattle.nvm_model.specs.Listing.{change_file, file_name, file_of, has_file, is_before, is_named, put_file, put_some, rename_file, rises, without_file}
use Rattle.nvm_model.specs.Page.{Page}
use Rattle.nvm_model.specs.Storage.{File}
use Rattle.nvm_model.proofs.OrderLemmas.{before-itself, put-first, put-later}
use Rattle.nvm_model.proofs.FileLemmas.{change-none, named-not}
use Rattle.machine_host.proofs.WeakLineLemmas.{holes-weak}

-- how many lines of one file
abbrev weak_in : File → ℕ
weak_in file = count_in_pages is_weak_cell file.pages

pub one-weak : (file : File) (files : List File) → weak_file_lines (file ∷ files) ≡ count_in_pages is_weak_cell file.pages + weak_file_lines files
one-weak file files = sum_by-cons weak_in file files

pub change-weak : (name : List ℕ) (f : File → File) → ((file : File) → count_in_pages is_weak_cell (f file).pages ≤ count_in_pages is_weak_cell file.pages)
    → (files : List File) → weak_file_lines (change_file file_name name f files) ≤ weak_file_lines files
change-weak name f less [] = omega arith
change-weak name f less (file ∷ files) =
    omega (
      arith,
      one-weak (cond (is_named file_name name file) (f file) file) (change_file file_name name f files),
      one-weak file files,
      by_test (is_named file_name name file),
      change-weak name f less files,
    )
  where
    by_test : (b : Bool) → weak_in (cond b (f file) file) ≤ weak_in file
    by_test true = less file
    by_test false = omega arith

-- no file of the name comes after the first one
pub none-after : (name : List ℕ) (first : File) (files : List File) → first.name ≡ name → list_all (λ (file : File). is_before first.name file.name) files ≡ true
    → has_file file_name name files ≡ false
none-after name first [] is after = refl
none-after name first (file ∷ files) is after =
    let parts = and_parts (is_before first.name file.name) _ after in
    let apart : file.name ≡ name → ⊥ = λ same. both_ways (is_before first.name file.name) (ap (is_before first.name) (same ∙ sym is) ∙ before-itself first.name) parts.0 in
    or_from (is_named file_name name file) (has_file file_name name files) (named-not file_name name file apart) (none-after name first files is parts.1)

pub change-one-weak : (name : List ℕ) (f : List Page → List Page) (files : List File) (file : File) → rises file_name files ≡ true → file_of file_name name files ≡ Some file
    → weak_file_lines (change_file file_name name (on_pages f) files) + count_in_pages is_weak_cell file.pages
    ≡ weak_file_lines files + count_in_pages is_weak_cell (f file.pages)
change-one-weak name f [] file up found = absurd (none-some file found)
change-one-weak name f (x ∷ xs) file up found = by_test (is_named file_name name x) (bytes_eq-Decides x.name name) found (λ later. change-one-weak name f xs file parts.1 later)
  where
    parts : (list_all (λ (y : File). is_before x.name y.name) xs ≡ true) × (rises file_name xs ≡ true)
    parts = and_parts _ (rises file_name xs) up

    changed : List File
    changed = change_file file_name name (on_pages f) xs

    by_test : (b : Bool) → Decides b (x.name ≡ name) → cond b (Some x) (file_of file_name name xs) ≡ Some file
        → (file_of file_name name xs ≡ Some file → weak_file_lines changed + weak_in file ≡ weak_file_lines xs + count_in_pages is_weak_cell (f file.pages))
        → weak_file_lines (cond b (on_pages f x) x ∷ changed) + weak_in file ≡ weak_file_lines (x ∷ xs) + count_in_pages is_weak_cell (f file.pages)
    by_test true tells found rest =
        let same : x ≡ file = same_Some _ _ found in
        let others : weak_file_lines changed ≡ weak_file_lines xs =
        ap weak_file_lines (change-none file_name name (on_pages f) xs (none-after name x xs (tells.0 refl) parts.0)) in
        omega (
          arith,
          one-weak (on_pages f x) changed,
          one-weak x xs,
          others,
          ap (λ (y : File). count_in_pages is_weak_cell y.pages) same,
          ap (λ (y : File). count_in_pages is_weak_cell (f y.pages)) same,
        )
    by_test false tells found rest = omega (arith, one-weak x changed, one-weak x xs, rest found)

pub without-weak : (name : List ℕ) (files : List File) → weak_file_lines (without_file file_name name files) ≤ weak_file_lines files
without-weak name [] = omega arith
without-weak name (x ∷ xs) = by_test (is_named file_name name x) (without-weak name xs)
  where
    by_test : (b : Bool) → weak_file_lines (without_file file_name name xs) ≤ weak_file_lines xs
        → weak_file_lines (cond (not b) (x ∷ without_file file_name name xs) (without_file file_name name xs)) ≤ weak_file_lines (x ∷ xs)
    by_test true rest = omega (arith, one-weak x xs, rest)
    by_test false rest = omega (arith, one-weak x xs, one-weak x (without_file file_name name xs), rest)

-- those of the file that was taken out are gone
pub taken-weak : (name : List ℕ) (files : List File) (file : File) → file_of file_name name files ≡ Some file
    → count_in_pages is_weak_cell file.pages + weak_file_lines (without_file file_name name files) ≤ weak_file_lines files
taken-weak name [] file found = absurd (none-some file found)
taken-weak name (x ∷ xs) file found = by_test (is_named file_name name x) found (λ later. taken-weak name xs file later)
  where
    by_test : (b : Bool) → cond b (Some x) (file_of file_name name xs) ≡ Some file
        → (file_of file_name name xs ≡ Some file → weak_in file + weak_file_lines (without_file file_name name xs) ≤ weak_file_lines xs)
        → weak_in file + weak_file_lines (cond (not b) (x ∷ without_file file_name name xs) (without_file file_name name xs)) ≤ weak_file_lines (x ∷ xs)
    by_test true found rest = omega (arith, one-weak x xs, ap weak_in (same_Some _ _ found), without-weak name xs)
    by_test false found rest = omega (arith, one-weak x xs, one-weak x (without_file file_name name xs), rest found)

-- one file more
pub put_file-weak : (file : File) (files : List File) → weak_file_lines (put_file file_name file files) ≡ count_in_pages is_weak_cell file.pages + weak_file_lines files
put_file-weak file [] = one-weak file []
put_file-weak file (x ∷ xs) =
    elim (cases_Bool (is_before file.name x.name)) [
      | inl first ↦ ap weak_file_lines (put-first file_name file x xs first) ∙ one-weak file (x ∷ xs)
      | inr later ↦
          omega (
            arith,
            ap weak_file_lines (put-later file_name file x xs later),
            one-weak x (put_file file_name file xs),
            one-weak x xs,
            put_file-weak file xs,
          )
    ]

pub new-weak : (name : List ℕ) (n : ℕ) (files : List File) → weak_file_lines (put_file file_name (new_file name n) files) ≡ weak_file_lines files
new-weak name n files = omega (arith, put_file-weak (new_file name n) files, holes-weak n)

pub rename-weak : (name to : List ℕ) (files : List File) → weak_file_lines (rename_file file_name name (with_name to) files) ≤ weak_file_lines files
rename-weak name to files = by_file (file_of file_name name files) refl
  where
    by_file : (o : Option File) → file_of file_name name files ≡ o
        → weak_file_lines (put_some file_name (option_map (with_name to) o) (without_file file_name name files)) ≤ weak_file_lines files
    by_file None found = without-weak name files
    by_file (Some file) found = omega (arith, put_file-weak (with_name to file) (without_file file_name name files), taken-weak name files file found)
