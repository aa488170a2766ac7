-- The entries of files with their units.
use Rattle.std.proofs.Common.{◌≡◌, ℕ, suc, cond, List, [], ◌∷◌, Option, Some, None, is_some, option_map, count_by, length, map, refl, sym, ap, ap₂, ◌∙◌, inl, inr, arith}
use Rattle.std.proofs.lemmas.Bool.{cases_Bool}
use Rattle.std.proofs.lemmas.List.Sums.{sum_by-cons}
use Rattle.nvm_base.specs.declared.files.FileEntry.{FileEntry}
use Rattle.inode_table.specs.Slots.{file_count}
use Rattle.nvm_model.specs.Listing.{in_order, is_before, put_file}
use Rattle.nvm_model.specs.Numbered.{map_from}
use Rattle.nvm_model.proofs.ListedLemmas.{length-in_order}
use Rattle.nvm_model.proofs.NumberedLemmas.{length-list_from}
use Rattle.nvm_model.proofs.OrderLemmas.{put-first, put-later}
use Rattle.file_journal.specs.Files.{UnitFile, entry_of, files_of, unit_file, unit_file_name, unit_slots}
use Rattle.file_journal.specs.Listing.{entry_name, listed}
use Rattle.file_journal.specs.Tables.{Tables, unit_at}

map-put : (x : UnitFile) (ys : List UnitFile) → map entry_of (put_file unit_file_name x ys) ≡ put_file entry_name (entry_of x) (map entry_of ys)
map-put x [] = refl
map-put x (y ∷ ys) =
    elim (cases_Bool (is_before x.name y.name)) [
      | inl first ↦ ap (map entry_of) (put-first unit_file_name x y ys first) ∙ sym (put-first entry_name (entry_of x) (entry_of y) (map entry_of ys) first)
      | inr later ↦
          ap (map entry_of) (put-later unit_file_name x y ys later) ∙ ap (λ l. entry_of y ∷ l) (map-put x ys)
          ∙ sym (put-later entry_name (entry_of x) (entry_of y) (map entry_of ys) later)
    ]

map-in_order : (slots : List (Option UnitFile)) → map entry_of (in_order unit_file_name slots) ≡ in_order entry_name (map (option_map entry_of) slots)
map-in_order [] = refl
map-in_order (None ∷ slots) = map-in_order slots
map-in_order (Some x ∷ slots) = map-put x (in_order unit_file_name slots) ∙ ap (put_file entry_name (entry_of x)) (map-in_order slots)

module _ (t : Tables) where
  entries : (n : ℕ) (files : List (Option FileEntry)) → map (option_map entry_of) (map_from (λ j s. option_map (unit_file t j) s) n files) ≡ files
  entries n [] = refl
  entries n (None ∷ files) = ap (λ l. None ∷ l) (entries (suc n) files)
  entries n (Some file ∷ files) =
      ap₂ (λ (k : ℕ) (l : List (Option FileEntry)). Some (record { name = file.name; pages = k }) ∷ l) (length-list_from (unit_at t n) 0 file.pages)
      (entries (suc n) files)

  pub entries-files_of : map entry_of (files_of t) ≡ listed t
  entries-files_of = map-in_order (unit_slots t) ∙ ap (in_order entry_name) (entries 0 t.files)

  counted : (n : ℕ) (files : List (Option FileEntry)) → count_by is_some (map_from (λ j s. option_map (unit_file t j) s) n files) ≡ count_by is_some files
  counted n [] = refl
  counted n (None ∷ files) =
      omega (
        arith,
        sum_by-cons (λ (s : Option UnitFile). cond (is_some s) 1 0) None (map_from (λ j s. option_map (unit_file t j) s) (suc n) files),
        sum_by-cons (λ (s : Option FileEntry). cond (is_some s) 1 0) None files,
        counted (suc n) files,
      )
  counted n (Some file ∷ files) =
      omega (
        arith,
        sum_by-cons (λ (s : Option UnitFile). cond (is_some s) 1 0) (Some (unit_file t n file)) (map_from (λ j s. option_map (unit_file t j) s) (suc n) files),
        sum_by-cons (λ (s : Option FileEntry). cond (is_some s) 1 0) (Some file) files,
        counted (suc n) files,
      )

  pub length-files_of : length (files_of t) ≡ file_count t.files
  length-files_of = length-in_order unit_file_name (unit_slots t) ∙ counted 0 t.files
