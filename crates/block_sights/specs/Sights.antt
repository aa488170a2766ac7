-- What reads see of a block, and what actions make of that. Each is as in nvm_model's Blocks, of one block alone.
use Rattle.std.specs.Prelude.{◌-◌, ◌*◌, ◌/◌, ◌==◌, ℕ, min, List, [], ◌∷◌, take, drop, length, Option, Some, None, position, is_none, if◌then◌else◌}
use Rattle.std.specs.List.{list_any}
use Rattle.nvm_base.specs.declared.units.Span.{Span}
use Rattle.nvm_model.specs.Numbered.{list_from, is_among}
use Rattle.nvm_model.specs.Storage.{Block}
use Rattle.nvm_model.specs.Storage.Block.{Absent, Scarred, Data}
use Rattle.nvm_model.specs.Blocks.{Obstacle, block_byte}
use Rattle.nvm_model.specs.Blocks.Obstacle.{scar, bad_line}

-- what reads see of a block: its 512 bytes, that it is scarred, or its lowest bad line
pub data Sight : Type 0 where
  Whole : List ℕ → Sight
  Scar : Sight
  BadLine : ℕ → Sight

-- the bytes of a block, by their numbers
unfoldable pub bytes_by : (ℕ → ℕ) → List ℕ
bytes_by byte = list_from byte 0 512

-- a block of zeros
abbrev pub zeros : Sight
zeros = Whole (bytes_by (λ _. 0))

-- eight lines of which the lowest bad one is this, if one is
abbrev pub sight_of_lines : List (Option (List ℕ)) → Option ℕ → Sight
sight_of_lines lines None = Whole (bytes_by (block_byte (Data lines)))
sight_of_lines lines (Some k) = BadLine k

-- what reads see of a block, as the model has it
abbrev pub sight : Block → Sight
sight Absent = zeros
sight Scarred = Scar
sight (Data lines) = sight_of_lines lines (position is_none lines)

-- bytes written from a block on, 512 to each, as block b is seen after it
abbrev pub sight_written : ℕ → List ℕ → ℕ → Sight → Sight
sight_written at bytes b old = if is_among at (length bytes / 512) b then Whole (take 512 (drop (512 * (b - at)) bytes)) else old

-- bytes written to several ranges, to each its part of them: a range has its first block and its length in bytes
abbrev pub sight_written_ranges : List Span → List ℕ → ℕ → Sight → Sight
sight_written_ranges [] bytes b old = old
sight_written_ranges (range ∷ ranges) bytes b old =
    sight_written_ranges ranges (drop range.len bytes) b (sight_written range.start (take range.len bytes) b old)

-- the blocks of some spans become this one
abbrev pub sight_made : List Span → Sight → ℕ → Sight → Sight
sight_made spans to b old = if list_any (λ (span : Span). is_among span.start span.len b) spans then to else old

-- a media error takes this line
abbrev pub lose_sight : ℕ → Sight → Sight
lose_sight line (Whole bytes) = BadLine line
lose_sight line Scar = Scar
lose_sight line (BadLine k) = BadLine (min line k)

-- a media error takes a line of a block
abbrev pub sight_lost : ℕ → ℕ → ℕ → Sight → Sight
sight_lost block line b old = if b == block then lose_sight line old else old

-- what keeps a block that is seen so from being read
abbrev pub obstacle_seen : ℕ → Sight → Option Obstacle
obstacle_seen b (Whole bytes) = None
obstacle_seen b Scar = Some (scar b)
obstacle_seen b (BadLine k) = Some (bad_line b k)
