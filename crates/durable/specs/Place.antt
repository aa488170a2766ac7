-- A byte of storage, and what is read there.
use Rattle.std.specs.Prelude.{◌/◌, ◌%◌, ℕ, Bool, false, List, Option, Some, None, option_map, slice_index, slice_index_or}
use Rattle.nvm_model.specs.Blocks.{nth}
use Rattle.nvm_model.specs.Cell.{Cell, cell_byte}
use Rattle.nvm_model.specs.Cell.Cell.{Bad, Kept}
use Rattle.nvm_model.specs.Page.{Page, cell_of, presence_of}
use Rattle.nvm_model.specs.Storage.{Block}
use Rattle.nvm_model.specs.Storage.Block.{Absent, Scarred, Data}
use Rattle.machine_model.specs.Machine.{Machine}
use Rattle.machine_model.specs.OnPages.{pages_named}

-- a byte of the volume, of the blocks, or of the file of a name, by its number
pub data Place : Type 0 where
  of_volume : ℕ → Place
  of_blocks : ℕ → Place
  of_file : List ℕ → ℕ → Place

-- the page of a line is there
abbrev pub is_line_present : List Page → ℕ → Bool
is_line_present pages n = slice_index_or (presence_of pages) (n / 64) false

-- a line that is there and weak
abbrev pub is_weak_line : Option Cell → Bool
is_weak_line None = false
is_weak_line (Some Bad) = false
is_weak_line (Some (Kept weak words)) = weak

-- byte i of a line of pages and of a block: 0 where nothing is kept, None where it can't be read
abbrev pub line_has : Option Cell → ℕ → Option ℕ
line_has None i = Some 0
line_has (Some Bad) i = None
line_has (Some (Kept weak words)) i = Some (cell_byte (Kept weak words) i)

abbrev pub block_has : Block → ℕ → Option ℕ
block_has Absent i = Some 0
block_has Scarred i = None
block_has (Data lines) i = option_map (λ bytes. slice_index bytes (i % 64)) (slice_index_or lines (i / 64) None)

-- the byte at a place
abbrev pub byte_at_place : Machine → Place → Option ℕ
byte_at_place h (of_volume i) = line_has (cell_of h.volume (i / 64)) (i % 64)
byte_at_place h (of_blocks i) = block_has (nth h.blocks (i / 512)) (i % 512)
byte_at_place h (of_file name i) = line_has (cell_of (pages_named name h.files) (i / 64)) (i % 64)

-- whether the place is of a weak line
abbrev pub is_weak_at : Machine → Place → Bool
is_weak_at h (of_volume i) = is_weak_line (cell_of h.volume (i / 64))
is_weak_at h (of_blocks i) = false
is_weak_at h (of_file name i) = is_weak_line (cell_of (pages_named name h.files) (i / 64))
