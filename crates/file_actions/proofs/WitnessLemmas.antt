-- A device stands for some files, so what is said of any files is said of some.
use Rattle.std.proofs.Common.{◌≡◌, ℕ, ◌<◌, List, Some, sym, ap, subst, ◌∙◌}
use Rattle.line_device.specs.Medium.{Medium}
use Rattle.inode_table.specs.Slots as names
use Rattle.inode_table.specs.Slots.{IsNamed, pages_at}
use Rattle.nvm_model.specs.Listing as list
use Rattle.nvm_model.specs.Listing.{file_name}
use Rattle.nvm_model.specs.Storage.{File}
use Rattle.nvm_model.proofs.AlikeLemmas.{alike-found}
use Rattle.nvm_model.proofs.SlotLemmas.{file_of-in_order}
use Rattle.file_journal.specs.Device.{device_files}
use Rattle.file_journal.specs.Files.{files_of, unit_file, unit_file_name, unit_slots}
use Rattle.file_journal.specs.Object.{JournalState}
use Rattle.file_journal.specs.Standing.{FileStands}
use Rattle.file_journal.specs.Tables.{AreTables}
use Rattle.file_journal.proofs.DeviceFileLemmas.{device_files-stand}
use Rattle.file_journal.proofs.FilesOfLemmas.{may_take-units, slot_of-file}
use Rattle.file_journal.proofs.ReplaceLemmas.{may_named}
use Rattle.file_pages.specs.Object.{IsFileAt}
use Rattle.file_pages.proofs.FilledLemmas.{live_of}

pub record SomeFile (s : JournalState) (m : Medium) (inode : ℕ) : Type 0 where
  pub listed : List File
  pub file : File
  pub at : IsFileAt s m inode listed file

-- an inode that has pages is a file's
pub some_file : (s : JournalState) (m : Medium) (inode page : ℕ) → AreTables s.geo.fpages s.tables → inode < 64 → page < pages_at s.tables.files inode → SomeFile s m inode
some_file s m inode page are low within =
    let live = live_of s.geo.fpages s.tables inode page are low within in
    let name = live.0 in
    let here = live.1 in
    let t = s.tables in
    let slot = slot_of-file t inode (Some here.file) here.is in
    let may = may_take-units t inode here.file.name (subst (names.MayTake t.files inode) (sym here.named) (may_named t.files inode name are.names here)) in
    let mine = ap (λ n. list.file_of unit_file_name n (files_of t)) (sym here.named) ∙ file_of-in_order unit_file_name (unit_slots t) inode (unit_file t inode here.file) slot may in
    let stand = device_files-stand s.geo m t in
    let pair = alike-found unit_file_name file_name (FileStands s.geo m) name (files_of t) (device_files s.geo m t) stand (unit_file t inode here.file) mine in
    let same : name ≡ pair.0.name = sym here.named ∙ pair.2 in
    record {
      listed = device_files s.geo m t;
      file = pair.0;
      at = record {
        named = subst (IsNamed t.files inode) same here;
        stand = stand;
        found = subst (λ n. list.file_of file_name n (device_files s.geo m t) ≡ Some pair.0) same pair.1;
      };
    }
