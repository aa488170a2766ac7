-- Which lines of files are weak.
use Rattle.std.proofs.Common.{◌≡◌, ◌∙◌, ℕ, Bool, false, ◌*◌, ◌/◌, ◌%◌, ◌≤◌, List, [], length, Option, Some, None, option_and_then, sym, ap, subst, arith}
use Rattle.std.proofs.lemmas.Option.{slice_get_past}
use Rattle.line_device.specs.Device.{Device}
use Rattle.line_device.specs.Medium.{IsSound, Medium}
use Rattle.word_tables.specs.declared.geometry.Geometry.{Geometry}
use Rattle.inode_table.specs.Slots.{inode_of}
use Rattle.inode_table.proofs.SlotLemmas.{found_is_named}
use Rattle.nvm_model.specs.Cell.{Cell, CellStands}
use Rattle.nvm_model.specs.Cell.Cell.{Bad, Kept}
use Rattle.nvm_model.specs.Events.{is_weak_cell}
use Rattle.nvm_model.specs.Page.{Page, cell_in, cell_of}
use Rattle.nvm_model.specs.Storage.{File}
use Rattle.file_journal.specs.Object.{JournalState}
use Rattle.file_journal.specs.Tables.{AreTables}
use Rattle.file_pages.specs.Object.{IsFileAt, file_place, pages_there, units_of}
use Rattle.file_pages.proofs.FoundLemmas.{file-found, file-missing}
use Rattle.file_pages.proofs.PassLemmas.{pages_on}
use Rattle.file_pages.proofs.PlaceLemmas.{PagesOn, line_at, located}
use Rattle.scrub.proofs.LineLemmas.{cell_here, no_cell}
use Rattle.machine_model.specs.declared.mode.Mode.TheVariants.{On}
use Rattle.machine_model.specs.Machine.{Machine}
use Rattle.machine_model.specs.OnFileErrors.{is_weak_line, is_weak_there}
use Rattle.machine_host.specs.Stands.{HostServes, HostState, Stands}

-- the mark of the device is that of the line
marked : (m : Medium) (place : ℕ) (cell : Cell) → IsSound m → CellStands m place cell → m.is_weak place ≡ is_weak_cell cell
marked m place Bad sound stands = sound.unmarked place stands
marked m place (Kept weak words) sound stands = stands.1

-- no line past the end is
pub weak_past : (pages : List Page) (offset : ℕ) → 4096 * length pages ≤ offset → is_weak_line (cell_of pages (offset / 64)) ≡ false
weak_past pages offset past =
    ap (λ (o : Option Page). is_weak_line (option_and_then (λ page. cell_in page (offset / 64 % 64)) o)) (slice_get_past pages (offset / 64 / 64) (omega (arith, past)))

-- a line of a file that an inode is
module _ (s : JournalState) (m : Medium) (inode n : ℕ) (are : AreTables s.geo.fpages s.tables) (all : List File) (file : File) (is : IsFileAt s m inode all file) where
  stands : PagesOn s.geo (units_of s.tables inode) m file.pages
  stands = pages_on s m inode all file are is

  pub weak_nowhere : file_place s inode n ≡ None → is_weak_line (cell_of file.pages n) ≡ false
  weak_nowhere none =
      ap is_weak_line (no_cell (file_place s inode) (line_at s.geo (units_of s.tables inode)) (pages_there s inode) (located s.geo (units_of s.tables inode)) m file.pages stands.there stands.stand n none)

  pub weak_placed : (line : ℕ) → IsSound m → file_place s inode n ≡ Some line → m.is_weak line ≡ is_weak_line (cell_of file.pages n)
  weak_placed line sound here =
      let cell = cell_here (file_place s inode) (line_at s.geo (units_of s.tables inode)) (pages_there s inode) (located s.geo (units_of s.tables inode)) n line here m file.pages stands.there stands.stand in
      marked m line cell.0 sound cell.2 ∙ sym (ap is_weak_line cell.1)

-- a line of the file of a name, if there is one
module _ (host : HostState) (d : Device) (h : Machine) (name : List ℕ) (n : ℕ) (on : host.mode ≡ On) (serves : HostServes host d) (stands : Stands host d h) where
  pub weak_found : (inode : ℕ) → inode_of name host.files.pages.journal.tables.files ≡ Some inode → (b : Bool)
      → ((all : List File) (file : File) → IsFileAt host.files.pages.journal d.medium inode all file → b ≡ is_weak_line (cell_of file.pages (64 * n / 64)))
      → b ≡ is_weak_there name n h.files
  weak_found inode here b is =
      let mounted = serves.mounted on in
      let right : AreTables host.files.pages.journal.geo.fpages host.files.pages.journal.tables =
      subst (λ (g : Geometry). AreTables g.fpages host.files.pages.journal.tables) (sym mounted.journal_geometry) mounted.journal_right in
      let found = file-found host.files.pages.journal d.medium right name h.files (stands.files on) inode (found_is_named name host.files.pages.journal.tables.files inode here) in
      let same : 64 * n / 64 ≡ n = omega arith in
      is h.files found.file found.at ∙ ap (λ k. is_weak_line (cell_of found.file.pages k)) same
      ∙ sym (ap (λ (o : Option File). is_weak_line (cell_of (elim o [ None ↦ [] | Some file ↦ file.pages ]) n)) found.found)

  pub weak_missing : inode_of name host.files.pages.journal.tables.files ≡ None → false ≡ is_weak_there name n h.files
  weak_missing none =
      sym (ap (λ (o : Option File). is_weak_line (cell_of (elim o [ None ↦ [] | Some file ↦ file.pages ]) n))
      (file-missing host.files.pages.journal d.medium name h.files (stands.files on) none))
