-- Pages of 64 lines, of the volume and of files. Lines and bytes are counted from the first page on.
use Rattle.std.specs.Prelude.{◌≡◌, ◌+◌, ◌*◌, ◌/◌, ◌%◌, ◌==◌, ◌&&◌, ℕ, zero, suc, Bool, true, false, not, List, [], ◌∷◌, length, map, nat_lt, Option, Some, None, option_and_then, slice_get, slice_index_or, replicate, if◌then◌else◌}
use Rattle.std.specs.List.{list_any}
use Rattle.nvm_base.specs.Units.{units_of}
use Rattle.line_device.specs.Medium.{Medium}
use Rattle.line_device.specs.Panel.{Image}
use Rattle.line_device.specs.declared.line.Choice.{Choice}
use Rattle.nvm_model.specs.Numbered.{map_from, list_from, is_among}
use Rattle.nvm_model.specs.Cell.{Cell, covers, lowest_touched, zero_cell, put_cell, persist_cell, cell_byte, read_cell, KeepsCell, CellStands}
use Rattle.nvm_model.specs.Cell.Cell.{Bad, Kept}

-- a page that no storage stands for, a hole in a file among them; or its 64 lines
pub data Page : Type 0 where
  Absent : Page
  Present : List Cell → Page

-- each line of a page changed by f, which is told its number; the page's lines are numbered from 64 * i
abbrev pub map_lines : (ℕ → Cell → Cell) → ℕ → Page → Page
map_lines f i Absent = Absent
map_lines f i (Present cells) = Present (map_from f (64 * i) cells)

-- line n, None where its page is absent or past the end
abbrev pub cell_in : Page → ℕ → Option Cell
cell_in Absent i = None
cell_in (Present cells) i = slice_get cells i

abbrev pub cell_of : List Page → ℕ → Option Cell
cell_of pages n = option_and_then (λ page. cell_in page (n % 64)) (slice_get pages (n / 64))

-- which pages are there
abbrev pub is_present : Page → Bool
is_present Absent = false
is_present (Present cells) = true

abbrev pub presence_of : List Page → List Bool
presence_of pages = map is_present pages

-- the span touches page i
abbrev pub touches_page : ℕ → ℕ → ℕ → Bool
touches_page start len i = nat_lt start (4096 * i + 4096) && nat_lt (4096 * i) (start + len)

-- whether the span touches a page that is absent, of those that are there or not
abbrev pub touches_absent : ℕ → ℕ → List Bool → Bool
touches_absent start len there = list_any (λ lacks. lacks) (map_from (λ i is_there. touches_page start len i && not is_there) 0 there)

-- how many of so many pages from one on are absent, and how many that a span touches
abbrev pub absent_among : List Bool → ℕ → ℕ → ℕ
absent_among there first zero = 0
absent_among there first (suc k) = absent_among there first k + (if slice_index_or there (first + k) true then 0 else 1)

abbrev pub absent_touched : ℕ → ℕ → List Bool → ℕ
absent_touched start len there = let pages = units_of 4096 (record { start = start; len = len }) in absent_among there pages.start pages.len

-- absent pages that the span touches turned into zeros
abbrev pub fill_page : ℕ → ℕ → ℕ → Page → Page
fill_page start len i Absent = if touches_page start len i then Present (replicate 64 zero_cell) else Absent
fill_page start len i (Present cells) = Present cells

unfoldable pub fill : ℕ → ℕ → List Page → List Page
fill start len pages = map_from (fill_page start len) 0 pages

-- bytes put at an offset
unfoldable pub put : ℕ → List ℕ → List Page → List Page
put at bytes pages = map_from (map_lines (put_cell at bytes)) 0 pages

-- the lines that the span touches made durable
unfoldable pub persist : ℕ → ℕ → List Page → List Page
persist start len pages = map_from (map_lines (persist_cell start len)) 0 pages

-- the cell of line n changed by f, that of any other line as it was
abbrev pub at_line : (Cell → Cell) → ℕ → ℕ → Cell → Cell
at_line f n i cell = if i == n then f cell else cell

-- one line changed by f, where its page is there
unfoldable pub change_line : (Cell → Cell) → ℕ → List Page → List Page
change_line f n pages = map_from (map_lines (at_line f n)) 0 pages

-- so many pages from one on made absent
abbrev pub discard_page : ℕ → ℕ → ℕ → Page → Page
discard_page first count i page = if is_among first count i then Absent else page

unfoldable pub discard : ℕ → ℕ → List Page → List Page
discard first count pages = map_from (discard_page first count) 0 pages

-- the line is there and bad
abbrev pub is_bad_cell : Option Cell → Bool
is_bad_cell None = false
is_bad_cell (Some Bad) = true
is_bad_cell (Some (Kept weak words)) = false

-- the lowest bad line that the span touches, and the lowest one of those that it doesn't cover wholly
unfoldable pub first_bad_line : List Page → ℕ → ℕ → Option ℕ
first_bad_line pages start len = lowest_touched (λ n. is_bad_cell (cell_of pages n)) start len

unfoldable pub first_uncovered_line : List Page → ℕ → ℕ → Option ℕ
first_uncovered_line pages start len = lowest_touched (λ n. is_bad_cell (cell_of pages n) && not (covers start len n)) start len

-- byte i as last stored; absent pages read as zeros
abbrev pub byte_in : List Page → ℕ → ℕ
byte_in pages i = elim (cell_of pages (i / 64)) [ None ↦ 0 | Some cell ↦ cell_byte cell (i % 64) ]

-- the bytes of a span as last stored
unfoldable pub look : List Page → ℕ → ℕ → List ℕ
look pages offset len = list_from (byte_in pages) offset len

-- Pages as a restart left them: which are there, and at which line of the device each of their lines lies.
abbrev pub read_page : (ℕ → ℕ) → Image → ℕ → Bool → Page
read_page place image i false = Absent
read_page place image i true = Present (list_from (λ n. read_cell image (place n)) (64 * i) 64)

unfoldable pub read_pages : (ℕ → ℕ) → Image → List Bool → List Page
read_pages place image there = map_from (read_page place image) 0 there

-- what a restart may leave of pages whose lines lie at these places
abbrev pub KeepsPages : Choice → (ℕ → ℕ) → Image → List Page → Type 0
KeepsPages choice place image pages = (n : ℕ) (cell : Cell) → cell_of pages n ≡ Some cell → KeepsCell choice image (place n) cell

-- how many lines are bad
abbrev pub bad_cells : List Cell → ℕ
bad_cells [] = 0
bad_cells (Bad ∷ cells) = suc (bad_cells cells)
bad_cells (Kept weak words ∷ cells) = bad_cells cells

abbrev pub bad_lines : List Page → ℕ
bad_lines [] = 0
bad_lines (Absent ∷ pages) = bad_lines pages
bad_lines (Present cells ∷ pages) = bad_cells cells + bad_lines pages

-- The device's lines at these places stand for the pages: each page that is there has 64 lines, and each of them its own.
pub record PagesStand (place : ℕ → ℕ) (m : Medium) (pages : List Page) : Type 0 where
  pub whole : (i : ℕ) (cells : List Cell) → slice_get pages i ≡ Some (Present cells) → length cells ≡ 64
  pub lines : (n : ℕ) (cell : Cell) → cell_of pages n ≡ Some cell → CellStands m (place n) cell
