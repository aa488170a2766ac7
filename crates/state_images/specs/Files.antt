-- On which units the pages of files are: one after the other, over all files.
use Rattle.std.specs.Prelude.{◌+◌, ◌/◌, ◌%◌, ℕ, suc, List, [], ◌∷◌, ◌++◌, length, Option, Some, None, option_and_then, slice_get, slice_index, slice_index_or}
use Rattle.inode_table.specs.Words.{words_of}
use Rattle.page_table.specs.Pages.{word_of}
use Rattle.nvm_model.specs.Cell.{Cell}
use Rattle.nvm_model.specs.Page.{Page}
use Rattle.nvm_model.specs.Page.Page.{Absent, Present}
use Rattle.nvm_model.specs.Storage.{File}
use Rattle.file_journal.specs.Files.{UnitFile, entry_of}
use Rattle.state_images.specs.Cells.{cell_or_zeros}

-- the lines of the pages that are there, page by page
abbrev pub present_pages : List Page → List (List Cell)
present_pages [] = []
present_pages (Absent ∷ pages) = present_pages pages
present_pages (Present cells ∷ pages) = cells ∷ present_pages pages

abbrev pub all_present : List File → List (List Cell)
all_present [] = []
all_present (file ∷ files) = present_pages file.pages ++ all_present files

-- the units of pages, from the first one that is left on
abbrev pub units_from : ℕ → List Page → List (Option ℕ)
units_from unit [] = []
units_from unit (Absent ∷ pages) = None ∷ units_from unit pages
units_from unit (Present cells ∷ pages) = Some unit ∷ units_from (suc unit) pages

-- files with the units of their pages
abbrev pub unit_files_from : ℕ → List File → List UnitFile
unit_files_from unit [] = []
unit_files_from unit (file ∷ files) =
    record { name = file.name; units = units_from unit file.pages } ∷ unit_files_from (unit + length (present_pages file.pages)) files

abbrev pub unit_files_of : List File → List UnitFile
unit_files_of files = unit_files_from 0 files

-- the unit of a page
abbrev pub unit_in : Option UnitFile → ℕ → Option ℕ
unit_in None page = None
unit_in (Some file) page = slice_index_or file.units page None

abbrev pub unit_of_entry : List UnitFile → ℕ → Option ℕ
unit_of_entry files entry = unit_in (slice_get files (entry / 256)) (entry % 256)

-- a word of an inode, 0 where it is free
abbrev pub word_in_inode : Option UnitFile → ℕ → ℕ
word_in_inode None k = 0
word_in_inode (Some file) k = slice_index (words_of (entry_of file)) k

abbrev pub inode_word_of : List UnitFile → ℕ → ℕ
inode_word_of files w = word_in_inode (slice_get files (w / 8)) (w % 8)

-- the word of a page of an inode
abbrev pub entry_word_of : List UnitFile → ℕ → ℕ
entry_word_of files entry = word_of (unit_of_entry files entry)

-- line n of units, each with the lines of the page of its number
abbrev pub line_of_units : List (List Cell) → ℕ → Cell
line_of_units pages n = cell_or_zeros (option_and_then (λ cells. slice_get cells (n % 64)) (slice_get pages (n / 64)))
