-- The units of a map as a list, of which the pool beside it is told.
use Rattle.std.proofs.Common.{◌≡◌, ◌+◌, ℕ, zero, suc, Bool, false, cond, List, [], ◌∷◌, Option, Some, None, is_some, option_map, count_by, set, slice_get, refl, sym, ◌∙◌, ap, ap₂}
use Rattle.std.proofs.lemmas.List.{map-set}
use Rattle.std.proofs.lemmas.List.Sums.{sum_by-cons}
use Rattle.std.proofs.lemmas.Option.{slice_get-map}
use Rattle.free_pool.specs.Beside.{IsOn, used_by, used_units}
use Rattle.free_pool.specs.Units.{IsTaken}
use Rattle.block_map.specs.declared.state.BlockState.{BlockState}
use Rattle.block_map.specs.declared.state.BlockState.TheVariants.{Absent, Scarred, At}
use Rattle.block_map.specs.States.{IsAt}
use Rattle.block_device.specs.declared.change.Change.{Change}
use Rattle.block_device.specs.Changes.{AreTaken, units_in, units_named}
use Rattle.block_device.specs.Object.{is_at, unit_on, units_of}

-- a state on a unit is that of the unit
pub state_at : (s : BlockState) (unit : ℕ) → unit_on s ≡ Some unit → s ≡ At unit
state_at Absent unit is = cc is
state_at Scarred unit is = cc is
state_at (At u) unit is = let same : u ≡ unit = cc is in ap At same

-- and a bare one is on none
pub unit_on-bare : (s : BlockState) → is_at s ≡ false → unit_on s ≡ None
unit_on-bare Absent bare = refl
unit_on-bare Scarred bare = refl
unit_on-bare (At unit) bare = cc bare

pub used_by-on : (s : BlockState) → used_by (unit_on s) ≡ cond (is_at s) 1 0
used_by-on Absent = refl
used_by-on Scarred = refl
used_by-on (At unit) = refl

-- a block's unit by number
pub unit_at : (states : List BlockState) (block : ℕ) (s : BlockState) → slice_get states block ≡ Some s → slice_get (units_of states) block ≡ Some (unit_on s)
unit_at states block s at = slice_get-map unit_on states block ∙ ap (option_map unit_on) at

pub on_unit : (states : List BlockState) (block unit : ℕ) → IsAt states block unit → IsOn (units_of states) block unit
on_unit states block unit at = unit_at states block (At unit) at

pub at_unit : (states : List BlockState) (block unit : ℕ) → IsOn (units_of states) block unit → IsAt states block unit
at_unit states block unit on = by_state (slice_get states block) refl (sym (slice_get-map unit_on states block) ∙ on)
  where
    by_state : (o : Option BlockState) → slice_get states block ≡ o → option_map unit_on o ≡ Some (Some unit) → IsAt states block unit
    by_state None is on = cc on
    by_state (Some s) is on = let same : unit_on s ≡ Some unit = cc on in is ∙ ap (λ (t : BlockState). Some t) (state_at s unit same)

-- a block that changes
pub units_of-set : (states : List BlockState) (block : ℕ) (s : BlockState) → units_of (set states block s) ≡ set (units_of states) block (unit_on s)
units_of-set states block s = map-set unit_on states block s

-- how many blocks are on a unit
pub used_units_of : (states : List BlockState) → used_units (units_of states) ≡ count_by is_at states
used_units_of [] = refl
used_units_of (s ∷ ss) =
    sum_by-cons (λ (o : Option ℕ). cond (is_some o) 1 0) (unit_on s) (units_of ss)
    ∙ ap₂ ◌+◌ (used_by-on s) (used_units_of ss)
    ∙ sym (sum_by-cons (λ (t : BlockState). cond (is_at t) 1 0) s ss)

-- the units of changes are taken, each by itself
pub taken_none : (free : List Bool) → AreTaken free []
taken_none free entry unit on = cc on

pub taken_first : (free : List Bool) (c : Change) (cs : List Change) → AreTaken free (c ∷ cs) → (unit : ℕ) → c.state ≡ At unit → IsTaken free unit
taken_first free c cs taken unit is = taken 0 unit (ap (λ (s : BlockState). Some (unit_on s)) is)

pub taken_rest : (free : List Bool) (c : Change) (cs : List Change) → AreTaken free (c ∷ cs) → AreTaken free cs
taken_rest free c cs taken entry unit on = taken (suc entry) unit on

pub taken_with : (free : List Bool) (c : Change) (cs : List Change) → ((unit : ℕ) → c.state ≡ At unit → IsTaken free unit) → AreTaken free cs → AreTaken free (c ∷ cs)
taken_with free c cs first rest zero unit on = let to : unit_on c.state ≡ Some unit = cc on in first unit (state_at c.state unit to)
taken_with free c cs first rest (suc entry) unit on = rest entry unit on

-- one change and others
pub units_named-cons : (c : Change) (cs : List Change) → units_named (c ∷ cs) ≡ used_by (unit_on c.state) + units_named cs
units_named-cons c cs = sum_by-cons (λ (o : Option ℕ). cond (is_some o) 1 0) (unit_on c.state) (units_in cs)
