-- The files of tables in order of name, after each change.
use Rattle.std.proofs.Common.{◌≡◌, ◌≢◌, ℕ, ◌+◌, ◌<◌, ◌≤◌, false, List, Option, Some, None, is_some, option_map, slice_get, slice_set, refl, sym, ap, ◌∙◌, arith}
use Rattle.std.proofs.lemmas.Option.{slice_get_within}
use Rattle.nvm_base.specs.declared.files.FileEntry.{FileEntry}
use Rattle.inode_table.specs.Slots as names
use Rattle.inode_table.specs.Slots.{IsNamed, free_inode, file_count, inode_of, pages_at, pages_of}
use Rattle.inode_table.proofs.SlotLemmas.{free_slot_is_free, full_from_none, none_named}
use Rattle.nvm_model.specs.Listing as list
use Rattle.nvm_model.specs.Listing.{change_file, in_order, put_file, put_some, rename_file, without_file}
use Rattle.nvm_model.proofs.NumberedLemmas.{slice_get-map_from}
use Rattle.nvm_model.proofs.SlotLemmas.{has_file-none, in_order-created}
use Rattle.file_journal.specs.Changes.{created, replaced}
use Rattle.file_journal.specs.Files.{UnitFile, files_of, hole_file, unit_file, unit_file_name, unit_slots}
use Rattle.file_journal.specs.Tables.{AreTables, Tables, has_file}
use Rattle.file_journal.proofs.ReplaceLemmas.{may_unnamed, pages_at_free, replaced_found}
use Rattle.file_journal.proofs.SlotFileLemmas.{unit_slots-changed}
use Rattle.file_journal.proofs.UnitFileLemmas.{unit_file-created}

pub slot_of-file : (t : Tables) (inode : ℕ) (slot : Option FileEntry) → slice_get t.files inode ≡ Some slot
    → slice_get (unit_slots t) inode ≡ Some (option_map (unit_file t inode) slot)
slot_of-file t inode slot is =
    let e : 0 + inode ≡ inode = omega arith in
    slice_get-map_from (λ j s. option_map (unit_file t j) s) 0 t.files inode ∙ ap (option_map (option_map (unit_file t (0 + inode)))) is
    ∙ ap (λ j. Some (option_map (unit_file t j) slot)) e

pub file_of-slot : (t : Tables) (j : ℕ) (x : UnitFile) → slice_get (unit_slots t) j ≡ Some (Some x) → (file : FileEntry) × (slice_get t.files j ≡ Some (Some file)) × (file.name ≡ x.name)
file_of-slot t j x is = by_slot (slice_get t.files j) refl (sym (slice_get-map_from (λ k s. option_map (unit_file t k) s) 0 t.files j) ∙ is)
  where
    by_slot : (o : Option (Option FileEntry)) → slice_get t.files j ≡ o → option_map (option_map (unit_file t (0 + j))) o ≡ Some (Some x)
        → (file : FileEntry) × (slice_get t.files j ≡ Some (Some file)) × (file.name ≡ x.name)
    by_slot None was is = cc
    by_slot (Some None) was is = cc
    by_slot (Some (Some file)) was is = let e : unit_file t (0 + j) file ≡ x = cc in (file, was, ap (λ y. y.name) e)

-- an inode may take a name in both
pub may_take-units : (t : Tables) (inode : ℕ) (name : List ℕ) → names.MayTake t.files inode name → list.MayTake unit_file_name (unit_slots t) inode name
may_take-units t inode name may j x is same = let found = file_of-slot t j x is in may j found.0 found.1 (found.2 ∙ same)

-- no file has a name that none is found by
pub none_listed : (t : Tables) (name : List ℕ) → inode_of name t.files ≡ None → list.has_file unit_file_name name (files_of t) ≡ false
none_listed t name none =
    has_file-none unit_file_name name (unit_slots t)
    (λ j x is same. let found = file_of-slot t j x is in none_named name t.files none j (record { file = found.0; is = found.1; named = found.2 ∙ same }))

pub unnamed : (t : Tables) (name : List ℕ) → has_file t name ≡ false → inode_of name t.files ≡ None
unnamed t name none = by_found (inode_of name t.files) refl
  where
    by_found : (o : Option ℕ) → inode_of name t.files ≡ o → o ≡ None
    by_found None is = refl
    by_found (Some i) is = let e : is_some (inode_of name t.files) ≡ is_some (Some i) = ap is_some is in cc

-- which inode a file gets
pub free_found : (t : Tables) (size : ℕ) → AreTables size t → file_count t.files ≢ 64 → (inode : ℕ) × (free_inode t.files ≡ Some inode)
free_found t size are room = by_found (free_inode t.files) refl
  where
    by_found : (o : Option ℕ) → free_inode t.files ≡ o → (inode : ℕ) × (free_inode t.files ≡ Some inode)
    by_found None is = absurd (room (full_from_none t.files is ∙ are.names.all))
    by_found (Some i) is = (i, is)

module _ (size : ℕ) (t : Tables) (are : AreTables size t) where
  pub low_of : (inode : ℕ) (slot : Option FileEntry) → slice_get t.files inode ≡ Some slot → inode < 64
  low_of inode slot is = omega (arith, slice_get_within t.files inode slot is, are.names.all)

  -- what a replaced inode makes of the list, in terms of slots
  pub listed-replaced : (inode : ℕ) (slot : Option FileEntry) → inode < 64
      → files_of (replaced inode slot t) ≡ in_order unit_file_name (slice_set (unit_slots t) inode (option_map (unit_file (replaced inode slot t) inode) slot))
  listed-replaced inode slot low = ap (in_order unit_file_name) (unit_slots-changed inode _ slot t are.table.all are.names low)

  pub files_of-created : (name : List ℕ) (pages : ℕ) → pages ≤ 256 → has_file t name ≡ false → file_count t.files ≢ 64
      → files_of (created name pages t) ≡ put_file unit_file_name (hole_file name pages) (files_of t)
  files_of-created name pages few none room =
      let found = free_found t size are room in
      let inode = found.0 in
      let file : FileEntry = record { name = name; pages = pages } in
      let is = free_slot_is_free t.files inode found.1 in
      let low = low_of inode None is in
      let may = may_take-units t inode name (may_unnamed t.files inode name (none_named name t.files (unnamed t name none))) in
      ap files_of (replaced_found (free_inode t.files) inode (λ _. Some file) t found.1) ∙ listed-replaced inode (Some file) low
      ∙ ap (λ f. in_order unit_file_name (slice_set (unit_slots t) inode (Some f))) (unit_file-created size t are inode low name pages few (pages_at_free t.files inode found.1))
      ∙ in_order-created unit_file_name (unit_slots t) inode (hole_file name pages) (slot_of-file t inode None is) may
