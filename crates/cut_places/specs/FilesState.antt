-- Files and mappings as they are held, and what becomes of them.
use Rattle.std.specs.Prelude.{◌/◌, ℕ, List, map, nat_lt, if◌then◌else◌}
use Rattle.nvm_model.specs.Cell.{zero_cell}
use Rattle.nvm_model.specs.Listing.{change_file, put_file, rename_file, without_file}
use Rattle.nvm_model.specs.Mappings.{without_mapping}
use Rattle.mappings.specs.Object.{MappingsState}
use Rattle.cut_places.specs.declared.line.FileLine.{FileLine}
use Rattle.cut_places.specs.Maps.{mapped}
use Rattle.cut_places.specs.FileChanges.{FilesChange, LinesChange, line_changed}
use Rattle.cut_places.specs.FileChanges.FilesChange.{Nothing, Makes, Removes, Renames, Resizes, Changes, Maps, Unmaps}

-- a file: its name, how many pages it has, and its lines that reads look at
pub record FileState : Type 0 where
  pub name : List ℕ
  pub pages : ℕ
  pub lines : List FileLine

-- The numbers of the lines that reads look at, the files in order of name, and the mappings, of which a copy is not kept.
pub record FilesState : Type 0 where
  pub numbers : List ℕ
  pub files : List FileState
  pub mappings : MappingsState

abbrev pub name_seen : FileState → List ℕ
name_seen file = file.name

-- the line of a hole
abbrev pub hole_at : ℕ → FileLine
hole_at n = record { number = n; line = zero_cell }

-- a file of holes
abbrev pub holes : List ℕ → List ℕ → ℕ → FileState
holes numbers name pages = record { name = name; pages = pages; lines = map hole_at numbers }

abbrev pub with_lines : List FileLine → FileState → FileState
with_lines lines file = record file { lines = lines }

abbrev pub with_name : List ℕ → FileState → FileState
with_name name file = record file { name = name }

-- a file of so many pages; a line behind them is one of zeros
abbrev pub line_within : ℕ → FileLine → FileLine
line_within pages line = if nat_lt (line.number / 64) pages then line else hole_at line.number

abbrev pub with_pages : ℕ → FileState → FileState
with_pages pages file = record file { pages = pages; lines = map (line_within pages) file.lines }

-- a line once it changed, and the lines of a file, of which those past its end stay
abbrev pub line_after : LinesChange → FileLine → FileLine
line_after change line = record line { line = line_changed change line.number line.line }

abbrev pub line_of_after : ℕ → LinesChange → FileLine → FileLine
line_of_after pages change line = if nat_lt (line.number / 64) pages then line_after change line else line

abbrev pub lines_after : LinesChange → FileState → FileState
lines_after change file = record file { lines = map (line_of_after file.pages change) file.lines }

-- the files after a change, of which each holds lines of these numbers
abbrev pub files_after : FilesChange → List ℕ → List FileState → List FileState
files_after Nothing numbers files = files
files_after (Makes name pages) numbers files = put_file name_seen (holes numbers name pages) files
files_after (Removes name) numbers files = without_file name_seen name files
files_after (Renames name to) numbers files = rename_file name_seen name (with_name to) files
files_after (Resizes name pages) numbers files = change_file name_seen name (with_pages pages) files
files_after (Changes name lines) numbers files = change_file name_seen name (lines_after lines) files
files_after (Maps name span kind) numbers files = files
files_after (Unmaps handle) numbers files = files

-- and the mappings
abbrev pub mappings_after : FilesChange → MappingsState → MappingsState
mappings_after Nothing s = s
mappings_after (Makes name pages) s = s
mappings_after (Removes name) s = s
mappings_after (Renames name to) s = s
mappings_after (Resizes name pages) s = s
mappings_after (Changes name lines) s = s
mappings_after (Maps name span kind) s = mapped (record { name = name; span = span; kind = kind }) s
mappings_after (Unmaps handle) s = record s { mappings = without_mapping handle s.mappings }

abbrev pub after : FilesChange → FilesState → FilesState
after change s = record s { files = files_after change s.numbers s.files; mappings = mappings_after change s.mappings }
