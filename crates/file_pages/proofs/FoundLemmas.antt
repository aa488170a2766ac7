-- The file of a name, as tables and device have it.
use Rattle.std.proofs.Common.{◌≡◌, ◌∙◌, ℕ, List, length, Some, None, sym, ap, subst}
use Rattle.std.proofs.lemmas.Option.{same_Some}
use Rattle.line_device.specs.Medium.{Medium}
use Rattle.inode_table.specs.Slots as names
use Rattle.inode_table.specs.Slots.{IsNamed, inode_of, pages_at}
use Rattle.inode_table.proofs.SlotLemmas.{found_is_named}
use Rattle.nvm_model.specs.Listing.{file_name, file_of}
use Rattle.nvm_model.specs.Storage.{File}
use Rattle.nvm_model.proofs.AlikeLemmas.{alike-found, alike-missing}
use Rattle.nvm_model.proofs.FileLemmas.{file_of-none}
use Rattle.nvm_model.proofs.SlotLemmas.{file_of-in_order}
use Rattle.file_journal.specs.Files.{files_of, unit_file, unit_file_name, unit_slots}
use Rattle.file_journal.specs.Object.{JournalState}
use Rattle.file_journal.specs.Standing.{FileStands, FilesStand}
use Rattle.file_journal.specs.Tables.{AreTables}
use Rattle.file_journal.proofs.FilesOfLemmas.{may_take-units, none_listed, slot_of-file}
use Rattle.file_journal.proofs.ReplaceLemmas.{may_named}
use Rattle.file_pages.specs.Object.{IsFileAt}
use Rattle.file_pages.proofs.PassLemmas.{length-pages_on, pages_on}

-- a file that an inode is
pub record FoundFile (s : JournalState) (m : Medium) (inode : ℕ) (name : List ℕ) (files : List File) : Type 0 where
  pub file : File
  pub named : file.name ≡ name
  pub found : file_of file_name name files ≡ Some file
  pub at : IsFileAt s m inode files file
  pub size : length file.pages ≡ pages_at s.tables.files inode

module _ (s : JournalState) (m : Medium) (are : AreTables s.geo.fpages s.tables) (name : List ℕ) (files : List File) (stand : FilesStand s.geo m s.tables files) where
  pub file-found : (inode : ℕ) → IsNamed s.tables.files inode name → FoundFile s m inode name files
  file-found inode here =
      let slot = slot_of-file s.tables inode (Some here.file) here.is in
      let may = may_take-units s.tables inode here.file.name (subst (names.MayTake s.tables.files inode) (sym here.named) (may_named s.tables.files inode name are.names here)) in
      let mine = ap (λ n. file_of unit_file_name n (files_of s.tables)) (sym here.named) ∙ file_of-in_order unit_file_name (unit_slots s.tables) inode (unit_file s.tables inode here.file) slot may in
      let pair = alike-found unit_file_name file_name (FileStands s.geo m) name (files_of s.tables) files stand (unit_file s.tables inode here.file) mine in
      let same : pair.0.name ≡ name = sym pair.2 ∙ here.named in
      let at : IsFileAt s m inode files pair.0 = record {
        named = subst (IsNamed s.tables.files inode) (sym same) here;
        stand = stand;
        found = ap (λ n. file_of file_name n files) same ∙ pair.1;
      } in
      record { file = pair.0; named = same; found = pair.1; at = at; size = length-pages_on s m inode pair.0.pages (pages_on s m inode files pair.0 are at) }

  -- the file that is found by the name is the inode's
  pub found-at : (inode : ℕ) → inode_of name s.tables.files ≡ Some inode → (file : File) → file_of file_name name files ≡ Some file → IsFileAt s m inode files file
  found-at inode here file found =
      let mine = file-found inode (found_is_named name s.tables.files inode here) in
      subst (IsFileAt s m inode files) (same_Some _ _ (sym mine.found ∙ found)) mine.at

-- a file that no inode is
pub file-missing : (s : JournalState) (m : Medium) (name : List ℕ) (files : List File) → FilesStand s.geo m s.tables files → inode_of name s.tables.files ≡ None
    → file_of file_name name files ≡ None
file-missing s m name files stand none =
    alike-missing unit_file_name file_name (FileStands s.geo m) name (files_of s.tables) files stand
    (file_of-none unit_file_name name (files_of s.tables) (none_listed s.tables name none))
