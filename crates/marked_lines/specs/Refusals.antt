-- When a line is made bad or weak, or is cleared, and why that is refused.
use Rattle.std.specs.Prelude.{◌*◌, ◌/◌, ◌||◌, ℕ, Bool, List, length, nat_le, nat_lt, Option, Some, None, if◌then◌else◌}
use Rattle.nvm_model.specs.Blocks.{nth}
use Rattle.nvm_model.specs.Cell.{Cell}
use Rattle.nvm_model.specs.Cell.Cell.{Bad, Kept}
use Rattle.nvm_model.specs.Page.{Page, cell_of}
use Rattle.nvm_model.specs.Storage.{Block}
use Rattle.nvm_model.specs.Storage.Block.{Absent, Data, Scarred}
use Rattle.word_tables.specs.declared.geometry.Geometry.{Geometry}

-- why a call is refused
pub data ScrubRefusal : Type 0 where
  Range : ScrubRefusal
  Nothing : ScrubRefusal
  NotPoisoned : ScrubRefusal

-- a cell, or a block of lines, has a place where it is there
abbrev pub cell_refusal : Option Cell → Option ScrubRefusal
cell_refusal None = Some Nothing
cell_refusal (Some cell) = None

abbrev pub unit_refusal : Block → Option ScrubRefusal
unit_refusal Absent = Some Nothing
unit_refusal Scarred = Some Nothing
unit_refusal (Data lines) = None

-- the place of a byte of so many pages
abbrev pub byte_refusal : ℕ → List Page → ℕ → Option ScrubRefusal
byte_refusal size pages offset = if nat_le (4096 * size) offset then Some Range else cell_refusal (cell_of pages (offset / 64))

-- of the volume, and of a file
abbrev pub place_refusal : Geometry → List Page → ℕ → Option ScrubRefusal
place_refusal geo pages offset = byte_refusal geo.vpages pages offset

abbrev pub file_refusal : List Page → ℕ → Option ScrubRefusal
file_refusal pages offset = byte_refusal (length pages) pages offset

-- the place of a line, 0 to 7, of one of so many blocks
abbrev pub block_refusal : ℕ → List Block → ℕ → ℕ → Option ScrubRefusal
block_refusal count blocks block line = if nat_le count block || nat_lt 7 line then Some Range else unit_refusal (nth blocks block)

-- a line is cleared where it is there and bad
abbrev pub line_refusal : Option Cell → Option ScrubRefusal
line_refusal None = Some Nothing
line_refusal (Some Bad) = None
line_refusal (Some (Kept weak words)) = Some NotPoisoned

-- the line of a byte of so many pages
abbrev pub healing_refusal : ℕ → List Page → ℕ → Option ScrubRefusal
healing_refusal size pages offset = if nat_le (4096 * size) offset then Some Range else line_refusal (cell_of pages (offset / 64))

-- of the volume, and of a file
abbrev pub clear_refusal : Geometry → List Page → ℕ → Option ScrubRefusal
clear_refusal geo pages offset = healing_refusal geo.vpages pages offset

abbrev pub file_clear_refusal : List Page → ℕ → Option ScrubRefusal
file_clear_refusal pages offset = healing_refusal (length pages) pages offset

-- a line of the device that is there is cleared where it is bad
abbrev pub mark_refusal : Bool → Option ScrubRefusal
mark_refusal is_bad = if is_bad then None else Some NotPoisoned
