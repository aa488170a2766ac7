-- Marked lines of single pages, and of the units that files' pages are on.
use Rattle.std.specs.Prelude.{◌&&◌, ℕ, Bool, not, List, Option, Some, None, count_by, slice_index_or, sum_by}
use Rattle.std.specs.List.{range_with_len}
use Rattle.line_device.specs.Medium.{Medium}
use Rattle.word_tables.specs.declared.geometry.Geometry.{Geometry}
use Rattle.word_tables.specs.Layout.{file_line}
use Rattle.inode_table.specs.Slots.{pages_at}
use Rattle.nvm_model.specs.Cell.{Cell}
use Rattle.nvm_model.specs.Events.{is_weak_cell}
use Rattle.nvm_model.specs.Numbered.{list_from}
use Rattle.nvm_model.specs.Page.{Page, bad_cells, is_bad_cell}
use Rattle.nvm_model.specs.Page.Page.{Absent, Present}
use Rattle.file_journal.specs.Tables.{Tables, unit_at}
use Rattle.marked_lines.specs.declared.mark.Mark.{Mark}
use Rattle.marked_lines.specs.declared.mark.Mark.TheVariants.{Bad, Weak}

-- a line has the mark; a bad one isn't weak
abbrev pub has_mark : Mark → Medium → ℕ → Bool
has_mark Bad m line = m.is_bad line
has_mark Weak m line = not (m.is_bad line) && m.is_weak line

-- the same of a cell
abbrev pub cell_has : Mark → Cell → Bool
cell_has Bad cell = is_bad_cell (Some cell)
cell_has Weak cell = is_weak_cell cell

-- the page of a number; past the end none is there
abbrev pub nth_page : List Page → ℕ → Page
nth_page pages i = slice_index_or pages i Absent

-- how many lines of a page are bad
abbrev pub bad_in_page : Page → ℕ
bad_in_page Absent = 0
bad_in_page (Present cells) = bad_cells cells

-- how many lines of a unit have the mark; a hole is on none
abbrev pub marked_on_unit : Mark → Geometry → Medium → Option ℕ → ℕ
marked_on_unit mark geo m None = 0
marked_on_unit mark geo m (Some unit) = count_by (has_mark mark m) (range_with_len (file_line geo unit) 64)

-- how many lines of an inode's pages have it
abbrev pub marked_in_inode : Mark → Geometry → Medium → Tables → ℕ → ℕ
marked_in_inode mark geo m t inode = sum_by (marked_on_unit mark geo m) (list_from (unit_at t inode) 0 (pages_at t.files inode))
