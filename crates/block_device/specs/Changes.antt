-- Changes of a map: blocks and the states that they get.
use Rattle.std.specs.Prelude.{◌≡◌, ◌<◌, ◌==◌, ◌+◌, ℕ, Bool, false, List, [], ◌∷◌, ◌++◌, Option, length, map, slice_set}
use Rattle.std.specs.List.{list_any}
use Rattle.word_tables.specs.declared.geometry.Geometry.{Geometry}
use Rattle.word_tables.specs.Words.{place, of_block}
use Rattle.block_map.specs.declared.state.BlockState.{BlockState}
use Rattle.block_map.specs.declared.state.BlockState.TheVariants.{Absent, Scarred, At}
use Rattle.block_map.specs.States.{IsAt, IsBelow, word_of}
use Rattle.free_pool.specs.Beside as pool
use Rattle.free_pool.specs.Beside.{used_units}
use Rattle.nvm_base.specs.declared.units.Span.{Span}
use Rattle.nvm_model.specs.Numbered.{list_from}
use Rattle.nvm_model.specs.Storage.{Block}
use Rattle.nvm_model.specs.Storage.Block.{Absent as Gone, Scarred as Scar}
use Rattle.block_device.specs.declared.change.Change.{Change}
use Rattle.block_device.specs.Object.{unit_on}

-- a map after some changes
abbrev pub changed_map : List Change → List BlockState → List BlockState
changed_map [] states = states
changed_map (c ∷ cs) states = changed_map cs (slice_set states c.block c.state)

-- the block is among those that change
abbrev pub names : List Change → ℕ → Bool
names changes block = list_any (λ (c : Change). c.block == block) changes

-- a block may get this state: its unit is one of the map's, and no block is on it
abbrev pub IsVacant : List BlockState → BlockState → Type 0
IsVacant states Absent = Unit {0}
IsVacant states Scarred = Unit {0}
IsVacant states (At unit) = (unit < length states + 64) × ((block : ℕ) → IsAt states block unit → ⊥)

-- the state is that unit
abbrev pub is_on : ℕ → BlockState → Bool
is_on unit Absent = false
is_on unit Scarred = false
is_on unit (At other) = other == unit

-- one of the changes puts a block on the unit of a state
abbrev pub takes : List Change → BlockState → Bool
takes changes Absent = false
takes changes Scarred = false
takes changes (At unit) = list_any (λ (c : Change). is_on unit c.state) changes

-- changes that a map may take together: of different blocks, to different units that no block is on
abbrev pub MayChange : List BlockState → List Change → Type 0
MayChange states [] = Unit {0}
MayChange states (c ∷ cs) =
    (c.block < length states) × IsVacant states c.state × (names cs c.block ≡ false) × (takes cs c.state ≡ false) × MayChange states cs

-- the words of these changes, with their places
abbrev pub word_changes : Geometry → List Change → List (ℕ × ℕ)
word_changes geo changes = map (λ (c : Change). (place geo (of_block c.block), word_of c.state)) changes

-- the units that they put blocks on, in their order
abbrev pub units_in : List Change → List (Option ℕ)
units_in changes = map (λ (c : Change). unit_on c.state) changes

-- how many they are
abbrev pub units_named : List Change → ℕ
units_named changes = used_units (units_in changes)

-- the units of these changes are taken
abbrev pub AreTaken : List Bool → List Change → Type 0
AreTaken free changes = pool.AreTaken (units_in changes) free

-- blocks and units of these changes are on a device of so many blocks
abbrev pub AreWithin : ℕ → List Change → Type 0
AreWithin blocks [] = Unit {0}
AreWithin blocks (c ∷ cs) = (c.block < blocks) × IsBelow (blocks + 64) c.state × AreWithin blocks cs

-- the block of a state that has no bytes
abbrev pub bare_block : BlockState → Block
bare_block Absent = Gone
bare_block Scarred = Scar
bare_block (At unit) = Gone

-- the blocks of some spans, each with that state
abbrev pub changes_in : List Span → BlockState → List Change
changes_in [] state = []
changes_in (span ∷ spans) state = list_from (λ block. record { block = block; state = state }) span.start span.len ++ changes_in spans state
