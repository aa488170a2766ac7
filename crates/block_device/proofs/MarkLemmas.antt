-- The units that a map leaves free.
use Rattle.std.proofs.Common.{◌≡◌, ◌+◌, ◌<◌, ◌≤◌, ℕ, Bool, true, false, cond, List, Some, length, set, take, replicate, count_by, slice_get, inl, inr, refl, sym, ap, ◌∙◌, subst, arith, get_or-set_same, get_or-set_other, length-set}
use Rattle.std.proofs.lemmas.Bool.{cases_eq, cases_lt}
use Rattle.std.proofs.lemmas.List.{length-replicate, get_or-replicate, take_all}
use Rattle.std.proofs.lemmas.List.Sums.{count_by_more_yes, count_by_more_no}
use Rattle.std.proofs.lemmas.List.Folds.{sum_by-replicate}
use Rattle.std.proofs.lemmas.Option.{slice_get-get_or, slice_get_within, get_or_from_slice_get, same_Some}
use Rattle.block_map.specs.declared.state.BlockState.{BlockState}
use Rattle.block_map.specs.declared.state.BlockState.TheVariants.{Absent, Scarred, At}
use Rattle.block_map.specs.States.{IsMap, IsAt}
use Rattle.free_pool.specs.Units.{IsFree, IsTaken, free_count}
use Rattle.free_pool.proofs.CountLemmas.{free_count-taken}
use Rattle.block_device.specs.Object.{IsInStep, is_at}
use Rattle.block_device.proofs.UnitsOfLemmas.{at_unit, used_units_of}

-- the units of the first so many blocks are taken, and no others
pub record AreLeft (map : List BlockState) (blocks k : ℕ) (pool : List Bool) : Type 0 where
  pub size : length pool ≡ blocks + 64
  pub free : (unit : ℕ) → unit < blocks + 64 → ((b : ℕ) → b < k → IsAt map b unit → ⊥) → IsFree pool unit
  pub taken : (b unit : ℕ) → b < k → IsAt map b unit → IsTaken pool unit
  pub count : free_count pool + count_by is_at (take k map) ≡ blocks + 64

pub left_all : (map : List BlockState) (blocks : ℕ) (pool : List Bool) → pool ≡ replicate (blocks + 64) true → AreLeft map blocks 0 pool
left_all map blocks pool is = subst (AreLeft map blocks 0) (sym is) (record {
  size = length-replicate (blocks + 64) true;
  free = λ unit below _.
      slice_get-get_or (replicate (blocks + 64) true) unit false (omega (arith, length-replicate (blocks + 64) true))
      ∙ ap (λ (b : Bool). Some b) (get_or-replicate (blocks + 64) unit true false below);
  taken = λ b unit below _. absurd (omega arith);
  count = omega (arith, sum_by-replicate (λ (b : Bool). cond b 1 0) (blocks + 64) true);
})

not_at : (s : BlockState) (unit : ℕ) → s ≡ At unit → is_at s ≡ false → ⊥
not_at s unit e f = let g : true ≡ false = sym (ap is_at e) ∙ f in cc

same_unit : (u v : ℕ) → At u ≡ At v → u ≡ v
same_unit u v e = cc

-- a block that is on no unit leaves them
module _ (map : List BlockState) (blocks k : ℕ) (pool : List Bool) (left : AreLeft map blocks k pool) (within : k < length map) where
  pub left_bare : (st : BlockState) → slice_get map k ≡ Some st → is_at st ≡ false → AreLeft map blocks (k + 1) pool
  left_bare st is bare = record {
    size = left.size;
    free = λ unit below none. left.free unit below (λ b lt. none b (omega arith));
    taken = λ b unit lt at. elim (cases_lt b k) [
      | inl before ↦ left.taken b unit before at
      | inr last ↦
          let same : b ≡ k = omega arith in
          let both = same_Some st (At unit) (sym is ∙ ap (slice_get map) (sym same) ∙ at) in
          absurd (not_at st unit both bare)
    ];
    count = omega (arith, left.count, count_by_more_no is_at map k Absent within (ap is_at (get_or_from_slice_get map k st Absent is) ∙ bare));
  }

  -- the unit of the next block is still free
  pub next_free : (unit : ℕ) → IsMap map → length map ≡ blocks → IsAt map k unit → IsFree pool unit
  next_free unit is_map all at =
      left.free unit (omega (arith, is_map.within k unit at)) (λ b lt other. omega (arith, is_map.apart b k unit other at))

  pub left_marked : (unit : ℕ) → IsMap map → length map ≡ blocks → IsAt map k unit → AreLeft map blocks (k + 1) (set pool unit false)
  left_marked unit is_map all at =
      let free = next_free unit is_map all at in
      let there : unit < length pool = slice_get_within pool unit true free in
      let size = length-set pool unit false in
      let other : (u : ℕ) (v : Bool) → (u ≡ unit → ⊥) → slice_get pool u ≡ Some v → slice_get (set pool unit false) u ≡ Some v =
      λ u v apart was.
      slice_get-get_or (set pool unit false) u true (omega (arith, slice_get_within pool u v was))
      ∙ ap (λ (b : Bool). Some b) (rw get_or-set_other (get_or_from_slice_get pool u v true was)) in
      let here : slice_get (set pool unit false) unit ≡ Some false =
      slice_get-get_or (set pool unit false) unit true (omega arith) ∙ ap (λ (b : Bool). Some b) (rw get_or-set_same refl) in
      record {
        size = size ∙ left.size;
        free = λ u below none. other u true (λ e. none k (omega arith) (subst (IsAt map k) (sym e) at)) (left.free u below (λ b lt. none b (omega arith)));
        taken = λ b u lt on. elim (cases_eq u unit) [
          | inl is ↦ subst (λ x. slice_get (set pool unit false) x ≡ Some false) (sym is) here
          | inr apart ↦ elim (cases_lt b k) [
            | inl before ↦ other u false apart (left.taken b u before on)
            | inr last ↦
                let same : b ≡ k = omega arith in
                absurd (apart (same_unit u unit (same_Some (At u) (At unit) (sym on ∙ ap (slice_get map) same ∙ at))))
          ]
        ];
        count = omega (arith, left.count, free_count-taken pool unit free, count_by_more_yes is_at map k Absent within (ap is_at (get_or_from_slice_get map k (At unit) Absent at)));
      }

pub left_in_step : (map : List BlockState) (blocks k : ℕ) (pool : List Bool) → AreLeft map blocks k pool → length map ≡ blocks → blocks ≤ k → IsInStep map pool 0
left_in_step map blocks k pool left all end = record {
  taken = λ b unit on. let at = at_unit map b unit on in left.taken b unit (omega (arith, slice_get_within map b (At unit) at)) at;
  count =
      let whole = ap (count_by is_at) (take_all k map (omega arith)) in
      omega (arith, left.count, left.size, whole, used_units_of map);
}

pub bare_state : (s : BlockState) → ((unit : ℕ) → s ≡ At unit → ⊥) → is_at s ≡ false
bare_state Absent not_ = refl
bare_state Scarred not_ = refl
bare_state (At unit) not_ = absurd (not_ unit refl)
