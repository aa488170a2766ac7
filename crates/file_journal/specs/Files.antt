-- The files of tables, each with the units of its pages, and what becomes of them.
use Rattle.std.specs.Prelude.{◌-◌, ◌++◌, ℕ, List, length, take, replicate, Option, None, option_map}
use Rattle.nvm_base.specs.declared.files.FileEntry.{FileEntry}
use Rattle.nvm_model.specs.Listing.{in_order}
use Rattle.nvm_model.specs.Numbered.{list_from, map_from}
use Rattle.file_journal.specs.Changes.{unit_for}
use Rattle.file_journal.specs.Tables.{Tables, unit_at}

-- a file, and for each of its pages the unit that it is on; a hole is on none
pub record UnitFile : Type 0 where
  pub name : List ℕ
  pub units : List (Option ℕ)

abbrev pub unit_file_name : UnitFile → List ℕ
unit_file_name file = file.name

-- the file of an inode with its units
abbrev pub unit_file : Tables → ℕ → FileEntry → UnitFile
unit_file t inode file = record { name = file.name; units = list_from (unit_at t inode) 0 file.pages }

-- the same for each inode
abbrev pub unit_slots : Tables → List (Option UnitFile)
unit_slots t = map_from (λ inode slot. option_map (unit_file t inode) slot) 0 t.files

-- the files in order of name
abbrev pub files_of : Tables → List UnitFile
files_of t = in_order unit_file_name (unit_slots t)

-- its name and page count
abbrev pub entry_of : UnitFile → FileEntry
entry_of file = record { name = file.name; pages = length file.units }

-- a new file: all holes
abbrev pub hole_file : List ℕ → ℕ → UnitFile
hole_file name pages = record { name = name; units = replicate pages None }

-- a file under another name
abbrev pub named_file : List ℕ → UnitFile → UnitFile
named_file name file = record file { name = name }

-- a file of so many pages: those that it keeps, and then holes
abbrev pub resized_file : ℕ → UnitFile → UnitFile
resized_file pages file = record file { units = take pages file.units ++ replicate (pages - length file.units) None }

-- a file of which pages are switched
abbrev pub switched_file : List (ℕ × Option ℕ) → UnitFile → UnitFile
switched_file switches file = record file { units = map_from (unit_for switches) 0 file.units }
