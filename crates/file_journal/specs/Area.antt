-- Which words and lines of a medium are those of files.
use Rattle.std.specs.Prelude.{◌⊎◌, ◌*◌, ℕ}
use Rattle.word_tables.specs.declared.geometry.Geometry.{Geometry}
use Rattle.word_tables.specs.Layout.{file_log, inodes, page_tables, file_pages, first_line, lines_in, HasLine}
use Rattle.word_log.specs.declared.area.LogArea.{LogArea}

-- the log of inodes and page tables, which lie one after the other; it takes 272 changes at once
abbrev pub file_area : Geometry → LogArea
file_area geo = record { log = lines_in geo file_log; cap = 272; home = record { start = 8 * first_line geo inodes; len = 16896 } }

-- a line of the log, of the inodes, of the page tables, or of a physical page
abbrev pub IsOfFiles : Geometry → ℕ → Type 0
IsOfFiles geo n = HasLine geo file_log n ⊎ HasLine geo inodes n ⊎ HasLine geo page_tables n ⊎ HasLine geo file_pages n
