-- The files in order of name.
use Rattle.std.specs.Prelude.{ℕ, List}
use Rattle.std.specs.List.{position_or_len}
use Rattle.nvm_base.specs.declared.files.FileEntry.{FileEntry}
use Rattle.nvm_model.specs.Listing.{in_order, is_before}
use Rattle.file_journal.specs.Tables.{Tables}

-- the name of a file
abbrev pub entry_name : FileEntry → List ℕ
entry_name file = file.name

-- the files of tables in order of name
abbrev pub listed : Tables → List FileEntry
listed t = in_order entry_name t.files

-- the place of the first of some files that a name comes before; past the last one where there is none
abbrev pub place_of : List ℕ → List FileEntry → ℕ
place_of name files = position_or_len (λ (file : FileEntry). is_before name file.name) files
