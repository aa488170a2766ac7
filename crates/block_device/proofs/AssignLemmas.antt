-- Map and pool in memory, as changes are made one after the other.
use Rattle.std.proofs.Common.{◌≡◌, ◌≢◌, ℕ, Bool, true, false, ◌+◌, ◌<◌, List, [], ◌∷◌, length, set, get_or, drop, slice_get, Option, Some, refl, sym, ◌∙◌, ap, subst, arith, length-set}
use Rattle.std.proofs.lemmas.Bool.{both_ways}
use Rattle.std.proofs.lemmas.List.{drop_more}
use Rattle.free_pool.specs.Units.{IsTaken}
use Rattle.free_pool.specs.Beside.{IsOn, known_units, used_by}
use Rattle.free_pool.specs.Beside.{AreTaken as Taken}
use Rattle.free_pool.proofs.BesideLemmas.{given_known, given_taken, still_taken, switched_known, switched_taken}
use Rattle.block_map.specs.declared.state.BlockState.{BlockState}
use Rattle.block_map.specs.declared.state.BlockState.TheVariants.{Absent, Scarred, At}
use Rattle.block_map.specs.States.{IsMap}
use Rattle.block_device.specs.declared.change.Change.{Change}
use Rattle.word_log.specs.declared.area.LogArea.{LogArea}
use Rattle.block_device.specs.Object.{BlocksState, IsKept, is_at, IsInStep, unit_on, units_of}
use Rattle.block_device.specs.Changes.{changed_map, units_named, IsVacant, MayChange, AreTaken}
use Rattle.block_device.proofs.ChangeLemmas.{vacant_unit, may_change-later}
use Rattle.block_device.proofs.UnitsOfLemmas.{at_unit, state_at, taken_first, taken_none, taken_rest, taken_with, unit_at, unit_on-bare, units_named-cons, units_of-set}

-- these changes are still to be made, up to the map in the end
pub record IsAssigning (rest : List Change) (final map : List BlockState) (free : List Bool) : Type 0 where
  pub all : changed_map rest map ≡ final
  pub may : MayChange map rest
  pub taken : AreTaken free rest
  pub in_step : IsInStep map free (units_named rest)

pub assigning_at : (changes : List Change) (i : ℕ) (d : Change) (final map : List BlockState) (free : List Bool) → i < length changes → IsAssigning (drop i changes) final map free → IsAssigning (get_or changes i d ∷ drop (i + 1) changes) final map free
assigning_at changes i d final map free below x = subst (λ rest. IsAssigning rest final map free) (drop_more changes i d below) x

module _ (c : Change) (cs : List Change) (final map : List BlockState) (free : List Bool) (left : BlockState) (x : IsAssigning (c ∷ cs) final map free) (at : slice_get map c.block ≡ Some left) where
  was_on : slice_get (units_of map) c.block ≡ Some (unit_on left)
  was_on = unit_at map c.block left at

  held : (unit : ℕ) → unit_on c.state ≡ Some unit → IsTaken free unit
  held unit to = x.taken 0 unit (ap (λ (o : Option ℕ). Some o) to)

  -- what is said of the units is said of the map
  of_map : (P : List (Option ℕ) → Type 0) → P (set (units_of map) c.block (unit_on c.state)) → P (units_of (set map c.block c.state))
  of_map P holds = subst P (sym (units_of-set map c.block c.state)) holds

  -- a block that leaves no unit
  pub assigned_bare : is_at left ≡ false → IsAssigning cs final (set map c.block c.state) free
  assigned_bare bare =
      let none = was_on ∙ ap (λ (o : Option ℕ). Some o) (unit_on-bare left bare) in
      let known = of_map (λ es. known_units es free ≡ known_units (units_of map) free + used_by (unit_on c.state)) (switched_known (units_of map) c.block (unit_on c.state) free x.in_step.taken held none) in
      record {
        all = x.all;
        may = may_change-later map c cs x.may;
        taken = taken_rest free c cs x.taken;
        in_step = record {
          taken = of_map (λ es. Taken es free) (switched_taken (units_of map) c.block (unit_on c.state) free x.in_step.taken held);
          count = omega (arith, known, units_named-cons c cs, x.in_step.count);
        };
      }

  -- the unit that a block leaves
  on_left : (unit : ℕ) → left ≡ At unit → IsOn (units_of map) c.block unit
  on_left unit is = was_on ∙ ap (λ (s : BlockState). Some (unit_on s)) is

  pub left_taken : (unit : ℕ) → left ≡ At unit → IsTaken free unit
  left_taken unit is = x.in_step.taken c.block unit (on_left unit is)

  -- no change puts a block on it
  other_unit : (unit : ℕ) → left ≡ At unit → (s : BlockState) (u : ℕ) → IsVacant map s → s ≡ At u → u ≢ unit
  other_unit unit is s u vacant to same = vacant_unit map s u c.block vacant to (at ∙ ap Some (is ∙ ap At (sym same)))

  still_held : (unit : ℕ) → left ≡ At unit → (ds : List Change) → MayChange map ds → AreTaken free ds → AreTaken (set free unit true) ds
  still_held unit is [] may taken = taken_none (set free unit true)
  still_held unit is (d ∷ ds) may taken =
      taken_with (set free unit true) d ds (λ u to. still_taken free unit u true (other_unit unit is d.state u may.1 to) (taken_first free d ds taken u to))
      (still_held unit is ds may.4 (taken_rest free d ds taken))

  pub assigned_unit : (unit : ℕ) → left ≡ At unit → IsMap map → IsAssigning cs final (set map c.block c.state) (set free unit true)
  assigned_unit unit is is_map =
      let on = on_left unit is in
      let alone : (b : ℕ) → IsOn (units_of map) b unit → b ≡ c.block = λ b there. is_map.apart b c.block unit (at_unit map b unit there) (at ∙ ap Some is) in
      let other : (u : ℕ) → unit_on c.state ≡ Some u → u ≢ unit = λ u to. other_unit unit is c.state u x.may.1 (state_at c.state u to) in
      let known = of_map (λ es. known_units es (set free unit true) ≡ known_units (units_of map) free + used_by (unit_on c.state)) (given_known (units_of map) c.block (unit_on c.state) free x.in_step.taken held unit on alone other) in
      record {
        all = x.all;
        may = may_change-later map c cs x.may;
        taken = still_held unit is cs x.may.4 (taken_rest free c cs x.taken);
        in_step = record {
          taken = of_map (λ es. Taken es (set free unit true)) (given_taken (units_of map) c.block (unit_on c.state) free x.in_step.taken held unit on alone other);
          count = omega (arith, known, units_named-cons c cs, x.in_step.count, length-set free unit true);
        };
      }

-- what is true of blocks at any time stays so while they are not settled
pub kept_unsettled : (s : BlocksState) (area : LogArea) (map : List BlockState) (free : List Bool) → IsKept s area → s.settled ≡ false → length map ≡ length s.map → IsMap map → length free ≡ length s.free → IsKept (record s { map = map; free = free }) area
kept_unsettled s area map free kept unsettled all is_map units = record {
  valid = kept.valid;
  area = kept.area;
  all = all ∙ kept.all;
  is_map = is_map;
  units = units ∙ kept.units;
  quiet = λ settled. absurd (both_ways s.settled unsettled settled);
  in_step = λ settled. absurd (both_ways s.settled unsettled settled);
}

pub bare_from_other : (left : BlockState) → ((unit : ℕ) → left ≡ At unit → ⊥) → is_at left ≡ false
bare_from_other Absent other = refl
bare_from_other Scarred other = refl
bare_from_other (At unit) other = absurd (other unit refl)
