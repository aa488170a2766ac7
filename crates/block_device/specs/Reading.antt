-- The blocks that the lines of a medium stand for. `bad` says which lines are bad, `word` has a value for each place.
use Rattle.std.specs.Prelude.{◌*◌, ◌/◌, ◌%◌, ℕ, Bool, List, Option, Some, None, map, if◌then◌else◌}
use Rattle.std.specs.Int.{byte_at}
use Rattle.word_tables.specs.declared.geometry.Geometry.{Geometry}
use Rattle.word_tables.specs.Layout.{block_line}
use Rattle.word_tables.specs.Words.{place, of_block}
use Rattle.block_map.specs.declared.state.BlockState.{BlockState}
use Rattle.block_map.specs.declared.state.BlockState.TheVariants as state
use Rattle.block_map.specs.States.{state_of}
use Rattle.word_log.specs.Replay.{replayed}
use Rattle.nvm_model.specs.Numbered.{list_from}
use Rattle.nvm_model.specs.Storage.{Block}
use Rattle.nvm_model.specs.Storage.Block.{Absent, Scarred, Data}
use Rattle.block_device.specs.Area.{block_area}

-- byte i of the medium
abbrev pub byte_of : (ℕ → ℕ) → ℕ → ℕ
byte_of word i = byte_at (i % 8) (word (i / 8))

-- so many bytes, from that one on
unfoldable pub bytes_read : (ℕ → ℕ) → ℕ → ℕ → List ℕ
bytes_read word start len = list_from (byte_of word) start len

-- the 64 bytes of line n, None where it is bad
abbrev pub line_read : (ℕ → Bool) → (ℕ → ℕ) → ℕ → Option (List ℕ)
line_read bad word n = if bad n then None else Some (list_from (byte_of word) (64 * n) 64)

-- the block of a state: that of a unit has its eight lines
abbrev pub block_read : Geometry → (ℕ → Bool) → (ℕ → ℕ) → BlockState → Block
block_read geo bad word state.Absent = Absent
block_read geo bad word state.Scarred = Scarred
block_read geo bad word (state.At unit) = Data (list_from (line_read bad word) (block_line geo unit) 8)

-- the blocks of a map
abbrev pub map_read : Geometry → (ℕ → Bool) → (ℕ → ℕ) → List BlockState → List Block
map_read geo bad word states = map (block_read geo bad word) states

-- the map after a replay of its log
unfoldable pub states_read : Geometry → (ℕ → ℕ) → List BlockState
states_read geo word = list_from (λ b. state_of (replayed (block_area geo) word (place geo (of_block b)))) 0 geo.blocks

-- all blocks
unfoldable pub blocks_read : Geometry → (ℕ → Bool) → (ℕ → ℕ) → List Block
blocks_read geo bad word = map_read geo bad word (states_read geo word)
