-- What callers see of the pages of files on a device.
use Rattle.std.specs.Prelude.{◌≡◌, ◌+◌, ◌/◌, ◌%◌, ◌<◌, ◌&&◌, ℕ, Bool, List, Option, Some, None, is_some, map, option_map, slice_index_or}
use Rattle.line_device.specs.Medium.{Medium}
use Rattle.word_tables.specs.declared.geometry.Geometry.{Geometry}
use Rattle.word_tables.specs.Layout.{file_line, meta_lines}
use Rattle.inode_table.specs.Slots.{IsNamed, pages_at}
use Rattle.nvm_model.specs.Listing.{file_name, file_of}
use Rattle.nvm_model.specs.Numbered.{list_from}
use Rattle.nvm_model.specs.Storage.{File}
use Rattle.file_journal.specs.Object.{JournalServes, JournalState}
use Rattle.file_journal.specs.Standing.{FilesStand}
use Rattle.file_journal.specs.Tables.{Tables, unit_at}

-- the journal of the files, and whether nothing stopped the last call on their pages
pub record PagesState : Type 0 where
  pub journal : JournalState
  pub settled : Bool

-- nothing stopped the last call, on pages or journal
abbrev pub is_settled : PagesState → Bool
is_settled s = s.settled && s.journal.settled

-- The device is the one whose files these are.
abbrev pub PagesServe : PagesState → Medium → Type 0
PagesServe s m = JournalServes s.journal m

-- the units of an inode's pages: a hole is on none
abbrev pub units_of : Tables → ℕ → List (Option ℕ)
units_of t inode = list_from (unit_at t inode) 0 (pages_at t.files inode)

-- which pages of an inode are no holes
abbrev pub pages_there : JournalState → ℕ → List Bool
pages_there s inode = map is_some (units_of s.tables inode)

-- at which line of the device a line of pages lies that are on these units; None in a hole and past the end
abbrev pub unit_place : Geometry → List (Option ℕ) → ℕ → Option ℕ
unit_place geo units n = option_map (λ unit. file_line geo unit + n % 64) (slice_index_or units (n / 64) None)

-- the same of a file
abbrev pub file_place : JournalState → ℕ → ℕ → Option ℕ
file_place s inode = unit_place s.geo (units_of s.tables inode)

-- a line of the device that a line of the file is at
abbrev pub IsFileLine : JournalState → ℕ → ℕ → Type 0
IsFileLine s inode line = (n : ℕ) × (file_place s inode n ≡ Some line)

-- lines of pages that are on some units
pub record PlacesState : Type 0 where
  pub geo : Geometry
  pub units : List (Option ℕ)

-- Journal and device stand for these files, and the inode is that one of them.
pub record IsFileAt (s : JournalState) (m : Medium) (inode : ℕ) (files : List File) (file : File) : Type 0 where
  pub named : IsNamed s.tables.files inode file.name
  pub stand : FilesStand s.geo m s.tables files
  pub found : file_of file_name file.name files ≡ Some file

-- no line of metadata changes its mark
abbrev pub KeepsMarks : Geometry → Medium → Medium → Type 0
KeepsMarks geo old new = (n : ℕ) → n < meta_lines geo → new.is_bad n ≡ old.is_bad n
