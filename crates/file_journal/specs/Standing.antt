-- The files that a device stands for: each page on its unit's lines, and what a restart leaves of them.
use Rattle.std.specs.Prelude.{◌≡◌, ◌+◌, ◌/◌, ◌%◌, ℕ, Bool, List, Option, Some, None, is_some, map, slice_index_or}
use Rattle.line_device.specs.Medium.{Medium}
use Rattle.line_device.specs.Panel.{Image}
use Rattle.line_device.specs.declared.line.Choice.{Choice}
use Rattle.word_tables.specs.declared.geometry.Geometry.{Geometry}
use Rattle.word_tables.specs.Layout.{file_line}
use Rattle.word_log.specs.Replay.{Replays}
use Rattle.word_log.specs.Rest.{EachImage}
use Rattle.nvm_model.specs.Listing.{AreAlike, file_name}
use Rattle.nvm_model.specs.Page.{presence_of, read_pages, KeepsPages, PagesStand}
use Rattle.nvm_model.specs.Storage.{File}
use Rattle.file_journal.specs.Area.{file_area}
use Rattle.file_journal.specs.Files.{UnitFile, files_of, unit_file_name}
use Rattle.file_journal.specs.Holds.{Holds}
use Rattle.file_journal.specs.Reading.{tables_read}
use Rattle.file_journal.specs.Tables.{AreTables, Tables}

-- at which line of the device a line of a file lies, whose pages are on these units: a hole's is on none
abbrev pub line_on : Geometry → Option ℕ → ℕ → ℕ
line_on geo None n = 0
line_on geo (Some unit) n = file_line geo unit + n % 64

abbrev pub line_of_file : Geometry → UnitFile → ℕ → ℕ
line_of_file geo on n = line_on geo (slice_index_or on.units (n / 64) None) n

-- which of its pages are no holes
abbrev pub pages_there : UnitFile → List Bool
pages_there on = map is_some on.units

-- The device stands for a file: the same pages are there, and the lines of their units stand for theirs.
pub record FileStands (geo : Geometry) (m : Medium) (on : UnitFile) (file : File) : Type 0 where
  pub there : presence_of file.pages ≡ pages_there on
  pub stand : PagesStand (line_of_file geo on) m file.pages

-- and so for each file of tables, in order of name
abbrev pub FilesStand : Geometry → Medium → Tables → List File → Type 0
FilesStand geo m t files = AreAlike unit_file_name file_name (FileStands geo m) (files_of t) files

-- an image holds tables, after its replay, whose files the device stands for, and those are like that
pub record ReadsFiles (geo : Geometry) (m : Medium) (P : List File → Type 0) (image : ℕ → ℕ) : Type 0 where
  pub tables : Tables
  pub right : AreTables geo.fpages tables
  pub word : ℕ → ℕ
  pub replays : Replays (file_area geo) image word
  pub holds : Holds geo word tables
  pub files : List File
  pub is : P files
  pub stand : FilesStand geo m tables files

-- each image of log and tables does
abbrev pub EachReadsFiles : Geometry → Medium → (List File → Type 0) → Type 0
EachReadsFiles geo m P = EachImage (file_area geo) m (ReadsFiles geo m P)

-- a file as a restart left it
abbrev pub file_read : Geometry → Image → UnitFile → File
file_read geo image on = record { name = on.name; pages = read_pages (line_of_file geo on) image (pages_there on) }

-- the files that a restart left, in order of name
unfoldable pub files_read : Geometry → Image → List File
files_read geo image = map (file_read geo image) (files_of (tables_read geo image.word))

-- what a restart may leave of a file: the same pages there, and of each word of them one of its values
pub record KeepsFile (choice : Choice) (geo : Geometry) (image : Image) (on : UnitFile) (file : File) : Type 0 where
  pub there : presence_of file.pages ≡ pages_there on
  pub keeps : KeepsPages choice (line_of_file geo on) image file.pages

-- and of all of them: the same names
abbrev pub KeepsFiles : Choice → Geometry → Image → List File → Type 0
KeepsFiles choice geo image files = AreAlike unit_file_name file_name (KeepsFile choice geo image) (files_of (tables_read geo image.word)) files
