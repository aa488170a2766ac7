-- What callers see of the blocks of a device, and what is kept beside.
use Rattle.std.specs.Prelude.{◌≡◌, ◌+◌, ◌-◌, ◌*◌, ◌/◌, ◌<◌, ◌≤◌, ℕ, Bool, true, false, IsTrue, List, length, map, Option, Some, None, slice_index_or}
use Rattle.line_device.specs.Medium.{Medium, last_image}
use Rattle.word_tables.specs.declared.geometry.Geometry.{Geometry}
use Rattle.word_tables.specs.Bounds.{IsValid}
use Rattle.word_tables.specs.Layout.{block_map, first_line, block_line, meta_lines, total_lines}
use Rattle.line_words.specs.Words.{IsOnly}
use Rattle.word_log.specs.declared.area.LogArea.{LogArea}
use Rattle.word_log.specs.Rest.{IsAtRest}
use Rattle.block_map.specs.declared.state.BlockState.{BlockState}
use Rattle.block_map.specs.declared.state.BlockState.TheVariants.{Absent, Scarred, At}
use Rattle.block_map.specs.States.{IsMap, IsAt, word_of}
use Rattle.free_pool.specs.Beside.{AreTaken, known_units}
use Rattle.nvm_model.specs.Lines.{AreGood, AreStrong}
use Rattle.nvm_model.specs.Storage.{Block}
use Rattle.block_device.specs.Area.{block_area}
use Rattle.block_device.specs.Reading.{map_read}

-- The sizes of the device, where each block is, which units are free, whether the log is settled, and whether nothing
-- stopped the last call.
pub record BlocksState : Type 0 where
  pub geo : Geometry
  pub map : List BlockState
  pub free : List Bool
  pub quiet : Bool
  pub settled : Bool

-- the words of a map
abbrev pub map_words : Geometry → List BlockState → ℕ → ℕ
map_words geo states p = word_of (slice_index_or states (p - 8 * first_line geo block_map) Absent)

-- the words of each unit that the map names have one value
abbrev pub AreDurable : Geometry → Medium → List BlockState → Type 0
AreDurable geo m states = (block unit : ℕ) → IsAt states block unit
    → (p : ℕ) → block_line geo unit ≤ p / 8 → p / 8 < block_line geo unit + 8 → IsOnly (last_image m p) (m.history p)

-- no line of metadata is weak
abbrev pub HasStrongMetadata : Geometry → Medium → Type 0
HasStrongMetadata geo m = AreStrong m (meta_lines geo)

-- none is bad
abbrev pub HasGoodMetadata : Geometry → Medium → Type 0
HasGoodMetadata geo m = AreGood m (meta_lines geo)

-- The device is the one whose blocks these are: its log is at rest with the words of the map, and what the map names is
-- durable. The sizes are valid, and the map is one of all blocks. Lines that became bad are no bar.
pub record BlocksServe (s : BlocksState) (m : Medium) : Type 0 where
  pub valid : IsValid s.geo
  pub all : length s.map ≡ s.geo.blocks
  pub is_map : IsMap s.map
  pub count : m.count ≡ total_lines s.geo
  pub strong : HasStrongMetadata s.geo m
  pub rest : IsAtRest (block_area s.geo) m (map_words s.geo s.map)
  pub durable : AreDurable s.geo m s.map

-- the blocks that device and map stand for
abbrev pub blocks_of : BlocksState → Medium → List Block
blocks_of s m = map_read s.geo m.is_bad (last_image m) s.map

-- whether a block is on a unit
abbrev pub is_at : BlockState → Bool
is_at Absent = false
is_at Scarred = false
is_at (At unit) = true

-- the unit that a block is on, if it is on one
abbrev pub unit_on : BlockState → Option ℕ
unit_on Absent = None
unit_on Scarred = None
unit_on (At unit) = Some unit

-- those of all blocks
abbrev pub units_of : List BlockState → List (Option ℕ)
units_of states = map unit_on states

-- Units that the map names are taken, and as many are free as it leaves, but for some that are taken and not named yet.
pub record IsInStep (states : List BlockState) (free : List Bool) (unnamed : ℕ) : Type 0 where
  pub taken : AreTaken (units_of states) free
  pub count : known_units (units_of states) free + unnamed ≡ length free

-- what is true of blocks at any time, with the area of their log
pub record IsKept (s : BlocksState) (log : LogArea) : Type 0 where
  pub valid : IsValid s.geo
  pub area : log ≡ block_area s.geo
  pub all : length s.map ≡ s.geo.blocks
  pub is_map : IsMap s.map
  pub units : length s.free ≡ s.geo.blocks + 64
  pub quiet : IsTrue s.settled → IsTrue s.quiet
  pub in_step : IsTrue s.settled → IsInStep s.map s.free 0
