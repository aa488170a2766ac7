-- Tables after a change are tables still.
use Rattle.std.proofs.Common.{◌≡◌, ◌≢◌, ℕ, ◌<◌, ◌≤◌, true, false, List, Option, Some, None, IfSome, refl, sym, subst}
use Rattle.nvm_base.specs.Names.{is_name}
use Rattle.nvm_base.specs.declared.files.FileEntry.{FileEntry}
use Rattle.inode_table.specs.Slots as names
use Rattle.inode_table.specs.Slots.{IsNamed, file_count, free_inode, inode_of, pages_at}
use Rattle.inode_table.proofs.SlotLemmas.{found_is_named, free_slot_is_free, none_named}
use Rattle.file_journal.specs.Changes.{created, deleted, renamed, replaced, replaced_at, resized}
use Rattle.file_journal.specs.Tables.{AreTables, Tables, has_file}
use Rattle.file_journal.proofs.FilesOfLemmas.{free_found, low_of, unnamed}
use Rattle.file_journal.proofs.ReplaceLemmas.{may_named, may_unnamed, pages_at_most, replaced_are, replaced_found, set_names}

-- the tables of an inode that became a slot
replaced_right : (size inode : ℕ) (slot : Option FileEntry) (t : Tables) → AreTables size t → inode < 64 → IfSome slot (λ file. names.MayTake t.files inode file.name)
    → IfSome slot (λ file. is_name file.name ≡ true) → IfSome slot (λ file. file.pages ≤ 256) → AreTables size (replaced inode slot t)
replaced_right size inode slot t are low name named few = replaced_are size inode slot t are low (set_names inode slot t.files are.names name named few)

module _ (size : ℕ) (t : Tables) (are : AreTables size t) (name : List ℕ) where
  -- no other inode has the name of one
  named_may : (inode : ℕ) → IsNamed t.files inode name → names.MayTake t.files inode name
  named_may inode here = may_named t.files inode name are.names here

  named_low : (inode : ℕ) → IsNamed t.files inode name → inode < 64
  named_low inode here = low_of size t are inode (Some here.file) here.is

  pub created_are : (pages : ℕ) → is_name name ≡ true → pages ≤ 256 → has_file t name ≡ false → file_count t.files ≢ 64 → AreTables size (created name pages t)
  created_are pages good few none room =
      let found = free_found t size are room in
      let inode = found.0 in
      let low = low_of size t are inode None (free_slot_is_free t.files inode found.1) in
      subst (AreTables size) (sym (replaced_found (free_inode t.files) inode (λ _. Some (record { name = name; pages = pages })) t found.1))
      (replaced_right size inode (Some (record { name = name; pages = pages })) t are low (may_unnamed t.files inode name (none_named name t.files (unnamed t name none))) good few)

  pub deleted_are : AreTables size (deleted name t)
  deleted_are = by_found (inode_of name t.files) refl
    where
      by_found : (o : Option ℕ) → inode_of name t.files ≡ o → AreTables size (replaced_at o (λ _. None) t)
      by_found None found = are
      by_found (Some inode) found = let here = found_is_named name t.files inode found in replaced_right size inode None t are (named_low inode here) tt tt tt

  pub renamed_are : (to : List ℕ) → is_name to ≡ true → has_file t to ≡ false → AreTables size (renamed name to t)
  renamed_are to good none = by_found (inode_of name t.files) refl
    where
      by_found : (o : Option ℕ) → inode_of name t.files ≡ o → AreTables size (replaced_at o (λ inode. Some (record { name = to; pages = pages_at t.files inode })) t)
      by_found None found = are
      by_found (Some inode) found =
          let low = named_low inode (found_is_named name t.files inode found) in
          replaced_right size inode (Some (record { name = to; pages = pages_at t.files inode })) t are low
          (may_unnamed t.files inode to (none_named to t.files (unnamed t to none))) good (pages_at_most t.files inode are.names low)

  pub resized_are : (pages : ℕ) → pages ≤ 256 → AreTables size (resized name pages t)
  resized_are pages few = by_found (inode_of name t.files) refl
    where
      by_found : (o : Option ℕ) → inode_of name t.files ≡ o → AreTables size (replaced_at o (λ _. Some (record { name = name; pages = pages })) t)
      by_found None found = are
      by_found (Some inode) found =
          let here = found_is_named name t.files inode found in
          replaced_right size inode (Some (record { name = name; pages = pages })) t are (named_low inode here) (named_may inode here)
          (subst (λ n. is_name n ≡ true) here.named (are.names.name inode here.file here.is)) few
