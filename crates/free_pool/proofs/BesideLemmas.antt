-- Units taken and given beside a table, and entries that get another unit.
use Rattle.std.proofs.Common.{◌≡◌, ◌≢◌, ◌⊎◌, inl, inr, ℕ, zero, suc, ◌+◌, ◌<◌, ◌≤◌, Bool, true, false, cond, List, [], ◌∷◌, Option, Some, None, is_some, length, get_or, set, slice_get, refl, sym, ◌∙◌, ap, arith, get_or-set_same, get_or-set_other, length-set}
use Rattle.std.proofs.lemmas.Bool.{cases_eq}
use Rattle.std.proofs.lemmas.List.Sums.{get_or-le-sum_by, sum_by-set}
use Rattle.std.proofs.lemmas.Option.{get_or_from_slice_get, slice_get-get_or, slice_get_within}
use Rattle.free_pool.specs.Beside.{AreTaken, IsOn, IsVacant, known_units, used_by, used_units}
use Rattle.free_pool.specs.Units.{IsFree, IsTaken}
use Rattle.free_pool.proofs.CountLemmas.{free_count-given, free_count-taken}

-- an item of a list in which one is set
pub slice_get-set_same : {A : Type 0} (xs : List A) (i : ℕ) (y : A) → i < length xs → slice_get (set xs i y) i ≡ Some y
slice_get-set_same [] i y below = absurd (omega arith)
slice_get-set_same (x ∷ xs) zero y below = refl
slice_get-set_same (x ∷ xs) (suc i) y below = slice_get-set_same xs i y (omega arith)

pub slice_get-set_other : {A : Type 0} (xs : List A) (i k : ℕ) (y : A) → (k ≡ i → ⊥) → slice_get (set xs i y) k ≡ slice_get xs k
slice_get-set_other [] i k y other = refl
slice_get-set_other (x ∷ xs) zero zero y other = absurd (other refl)
slice_get-set_other (x ∷ xs) zero (suc k) y other = refl
slice_get-set_other (x ∷ xs) (suc i) zero y other = refl
slice_get-set_other (x ∷ xs) (suc i) (suc k) y other = slice_get-set_other xs i k y (λ e. other (ap suc e))

-- a unit is not free and taken
pub free_not_taken : (free : List Bool) (unit other : ℕ) → IsFree free unit → IsTaken free other → other ≢ unit
free_not_taken free unit other is_free taken same = differ (sym is_free ∙ ap (slice_get free) (sym same) ∙ taken)
  where
    differ : Some true ≡ Some false → ⊥
    differ e = cc

-- a unit that is taken stays so when another changes
pub still_taken : (free : List Bool) (other unit : ℕ) (to : Bool) → unit ≢ other → IsTaken free unit → IsTaken (set free other to) unit
still_taken free other unit to apart taken = slice_get-set_other free other unit to apart ∙ taken

module _ (entries : List (Option ℕ)) (free : List Bool) (unit : ℕ) where
  -- a unit is taken that was free: no entry is on it, and it is held
  module _ (is_free : IsFree free unit) where
    pub free_is_vacant : AreTaken entries free → IsVacant entries unit
    free_is_vacant taken entry on = free_not_taken free unit unit is_free (taken entry unit on) refl

    pub taken_beside : AreTaken entries free → AreTaken entries (set free unit false)
    taken_beside taken entry other on = let was = taken entry other on in still_taken free unit other false (free_not_taken free unit other is_free was) was

    pub known-taken : known_units entries (set free unit false) + 1 ≡ known_units entries free
    known-taken = omega (arith, free_count-taken free unit is_free)

  -- a unit that is held is given back
  pub given_beside : IsVacant entries unit → AreTaken entries free → AreTaken entries (set free unit true)
  given_beside vacant taken entry other on = still_taken free unit other true (λ same. vacant entry (on ∙ ap (λ (u : ℕ). Some (Some u)) same)) (taken entry other on)

-- An entry gets another unit, or none.
module _ (entries : List (Option ℕ)) (entry : ℕ) (to : Option ℕ) where
  -- what is on a unit afterwards is the one that changed, or was there before
  pub on_after : (e unit : ℕ) → IsOn (set entries entry to) e unit → ((e ≡ entry) × (to ≡ Some unit)) ⊎ ((e ≢ entry) × IsOn entries e unit)
  on_after e unit on =
      let size = length-set entries entry to in
      let within : e < length entries = omega (arith, slice_get_within (set entries entry to) e (Some unit) on) in
      let is = get_or_from_slice_get (set entries entry to) e (Some unit) None on in
      elim (cases_eq e entry) [
        | inl same ↦ inl (same, sym (get_or-set_same entries e to None within) ∙ ap (λ i. get_or (set entries i to) e None) same ∙ is)
        | inr apart ↦ inr (apart, slice_get-get_or entries e None within ∙ ap (λ (p : Option ℕ). Some p) (sym (get_or-set_other entries entry e to None apart) ∙ is))
      ]

  module _ (was : Option ℕ) (at : slice_get entries entry ≡ Some was) where
    pub used_before : used_by was ≤ used_units entries
    used_before =
        let here = get_or_from_slice_get entries entry was None at in
        let le = get_or-le-sum_by (λ (p : Option ℕ). cond (is_some p) 1 0) entries entry None (slice_get_within entries entry was at) in
        rw here at le

    pub used_after : used_units (set entries entry to) + used_by was ≡ used_units entries + used_by to
    used_after =
        let here = get_or_from_slice_get entries entry was None at in
        let sums = sum_by-set (λ (p : Option ℕ). cond (is_some p) 1 0) entries entry to None (slice_get_within entries entry was at) in
        rw here at sums

  -- Its new unit was held.
  module _ (free : List Bool) (taken : AreTaken entries free) (held : (unit : ℕ) → to ≡ Some unit → IsTaken free unit) where
    pub switched_taken : AreTaken (set entries entry to) free
    switched_taken e unit on = elim (on_after e unit on) as (λ _. IsTaken free unit) [
      | inl here ↦ held unit here.1
      | inr there ↦ taken e unit there.1
    ]

    -- it was on no unit
    pub switched_known : slice_get entries entry ≡ Some None → known_units (set entries entry to) free ≡ known_units entries free + used_by to
    switched_known at = omega (arith, used_after None at)

    -- or the one that it was on, and no other entry, is given back
    module _ (left : ℕ) (at : IsOn entries entry left) (apart : (e : ℕ) → IsOn entries e left → e ≡ entry) (other : (unit : ℕ) → to ≡ Some unit → unit ≢ left) where
      pub given_taken : AreTaken (set entries entry to) (set free left true)
      given_taken e unit on = still_taken free left unit true (elsewhere e unit on) (switched_taken e unit on)
        where
          elsewhere : (e unit : ℕ) → IsOn (set entries entry to) e unit → unit ≢ left
          elsewhere e unit on same = elim (on_after e unit on) as (λ _. ⊥) [
            | inl here ↦ other unit here.1 same
            | inr there ↦ there.0 (apart e (there.1 ∙ ap (λ (u : ℕ). Some (Some u)) same))
          ]

      pub given_known : known_units (set entries entry to) (set free left true) ≡ known_units entries free + used_by to
      given_known = omega (arith, used_after (Some left) at, free_count-given free left (taken entry left at))
