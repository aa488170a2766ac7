-- Blocks of 512 bytes, numbered from 0, and what actions make of them. Bytes are counted from the first block on.
use Rattle.std.specs.Prelude.{◌≡◌, ◌⊎◌, ◌-◌, ◌*◌, ◌/◌, ◌%◌, ◌==◌, ℕ, zero, suc, Bool, List, [], ◌∷◌, take, drop, length, Option, Some, None, option_map, position, slice_index, slice_index_or, count_by, is_none, if◌then◌else◌, true, false, sum_by}
use Rattle.std.specs.List.{list_any}
use Rattle.nvm_base.specs.declared.units.Span.{Span}
use Rattle.nvm_model.specs.Numbered.{map_from, list_from, is_among}
use Rattle.nvm_model.specs.Storage.{Block}
use Rattle.nvm_model.specs.Storage.Block.{Absent, Scarred, Data}

-- the block of a number; past the end none is there
abbrev pub nth : List Block → ℕ → Block
nth blocks i = slice_index_or blocks i Absent

-- a block of 512 of the bytes, those of number i
abbrev pub data_from : List ℕ → ℕ → Block
data_from bytes i = Data (list_from (λ n. Some (list_from (slice_index bytes) (64 * n) 64)) (8 * i) 8)

-- bytes written from a block on, 512 to each
abbrev pub write_block : ℕ → List ℕ → ℕ → Block → Block
write_block at bytes i old = if is_among at (length bytes / 512) i then data_from bytes (i - at) else old

unfoldable pub write : ℕ → List ℕ → List Block → List Block
write at bytes blocks = map_from (write_block at bytes) 0 blocks

-- bytes written to several ranges, to each its part of them: a range has its first block and its length in bytes
abbrev pub write_ranges : List Span → List ℕ → List Block → List Block
write_ranges [] bytes blocks = blocks
write_ranges (range ∷ ranges) bytes blocks = write_ranges ranges (drop range.len bytes) (write range.start (take range.len bytes) blocks)

-- the blocks of some spans become this one: absent by a discard, scarred by a scar
abbrev pub change_block : List Span → Block → ℕ → Block → Block
change_block spans to i old = if list_any (λ (span : Span). is_among span.start span.len i) spans then to else old

unfoldable pub change : List Span → Block → List Block → List Block
change spans to blocks = map_from (change_block spans to) 0 blocks

-- a media error takes one of these lines, or one of a block that has lines
abbrev pub lose_at : ℕ → List (Option (List ℕ)) → List (Option (List ℕ))
lose_at line lines = map_from (λ k bytes. if k == line then None else bytes) 0 lines

abbrev pub lose_line : ℕ → Block → Block
lose_line line Absent = Absent
lose_line line Scarred = Scarred
lose_line line (Data lines) = Data (lose_at line lines)

-- the same of the block of a number; the other blocks stay
abbrev pub lose_line_of : ℕ → ℕ → ℕ → Block → Block
lose_line_of block line i old = if i == block then lose_line line old else old

unfoldable pub lose : ℕ → ℕ → List Block → List Block
lose block line blocks = map_from (lose_line_of block line) 0 blocks

-- byte i of a line, of a block, and of all blocks, as last written; what is absent reads as zeros
abbrev pub line_byte : Option (List ℕ) → ℕ → ℕ
line_byte None i = 0
line_byte (Some bytes) i = slice_index bytes i

abbrev pub block_byte : Block → ℕ → ℕ
block_byte Absent i = 0
block_byte Scarred i = 0
block_byte (Data lines) i = line_byte (slice_index_or lines (i / 64) None) (i % 64)

abbrev pub byte_of_blocks : List Block → ℕ → ℕ
byte_of_blocks blocks i = block_byte (nth blocks (i / 512)) (i % 512)

-- the bytes of so many blocks
unfoldable pub look_blocks : List Block → ℕ → ℕ → List ℕ
look_blocks blocks at count = list_from (byte_of_blocks blocks) (512 * at) (512 * count)

-- what keeps a block from being read: it is scarred, or a line of it is bad, the lowest one
pub data Obstacle : Type 0 where
  scar : ℕ → Obstacle
  bad_line : ℕ → ℕ → Obstacle

abbrev pub obstacle_in : ℕ → Block → Option Obstacle
obstacle_in i Absent = None
obstacle_in i Scarred = Some (scar i)
obstacle_in i (Data lines) = option_map (bad_line i) (position is_none lines)

-- the first of two that is there
abbrev pub first_there : {A : Type 0} → Option A → Option A → Option A
first_there None second = second
first_there (Some x) second = Some x

-- what keeps so many blocks from being read: what keeps the lowest of them
abbrev pub first_obstacle : List Block → ℕ → ℕ → Option Obstacle
first_obstacle blocks at zero = None
first_obstacle blocks at (suc count) = first_there (obstacle_in at (nth blocks at)) (first_obstacle blocks (suc at) count)

-- whether anything is kept for a block
abbrev pub is_there : Block → Bool
is_there Absent = false
is_there Scarred = true
is_there (Data lines) = true

-- how many lines of blocks are bad
abbrev pub bad_lines_in : Block → ℕ
bad_lines_in Absent = 0
bad_lines_in Scarred = 0
bad_lines_in (Data lines) = count_by is_none lines

abbrev pub bad_block_lines : List Block → ℕ
bad_block_lines blocks = sum_by bad_lines_in blocks

-- each block is as in the one list, or as in the other
pub record IsMixed (one other blocks : List Block) : Type 0 where
  pub length : length blocks ≡ length one
  pub each : (i : ℕ) → (nth blocks i ≡ nth one i) ⊎ (nth blocks i ≡ nth other i)
