-- What a word of the block map says of its block, and what makes a map.
use Rattle.std.specs.Prelude.{◌≡◌, ◌<◌, ◌+◌, ℕ, zero, suc, List, Some, length, slice_get}
use Rattle.block_map.specs.declared.state.BlockState.{BlockState}
use Rattle.block_map.specs.declared.state.BlockState.TheVariants.{Absent, Scarred, At}

-- the state that a word stands for
abbrev pub state_of : ℕ → BlockState
state_of zero = Absent
state_of (suc zero) = Scarred
state_of (suc (suc unit)) = At unit

-- the word that stands for a state
abbrev pub word_of : BlockState → ℕ
word_of Absent = 0
word_of Scarred = 1
word_of (At unit) = unit + 2

-- a block is on a unit
abbrev pub IsAt : List BlockState → ℕ → ℕ → Type 0
IsAt states block unit = slice_get states block ≡ Some (At unit)

-- every block that has a unit has one of its own, of 64 more than there are blocks
pub record IsMap (states : List BlockState) : Type 0 where
  pub within : (block unit : ℕ) → IsAt states block unit → unit < length states + 64
  pub apart : (a b unit : ℕ) → IsAt states a unit → IsAt states b unit → a ≡ b

-- a block may take a state: its unit is one of the map's, and no other block is on it
abbrev pub MayTake : List BlockState → ℕ → BlockState → Type 0
MayTake states block Absent = Unit {0}
MayTake states block Scarred = Unit {0}
MayTake states block (At unit) = (unit < length states + 64) × ((other : ℕ) → IsAt states other unit → other ≡ block)

-- a state's unit is below a limit
abbrev pub IsBelow : ℕ → BlockState → Type 0
IsBelow limit Absent = Unit {0}
IsBelow limit Scarred = Unit {0}
IsBelow limit (At unit) = unit < limit
