-- Changes that a map may take together.
use Rattle.std.proofs.Common.{◌≡◌, ◌⊎◌, inl, inr, ℕ, zero, suc, true, false, ◌==◌, ◌+◌, ◌<◌, ◌≤◌, List, [], ◌∷◌, ◌++◌, length, set, get_or, refl, sym, ◌∙◌, ap, subst, arith, length-set}
use Rattle.std.proofs.lemmas.Bool.{cases_eq, eq-eqb, ne_eqb, or_parts, or_from, both_ways}
use Rattle.std.proofs.lemmas.Option.{same_Some}
use Rattle.free_pool.proofs.BesideLemmas.{slice_get-set_other, slice_get-set_same}
use Rattle.block_map.specs.declared.state.BlockState.{BlockState}
use Rattle.block_map.specs.declared.state.BlockState.TheVariants.{Absent, Scarred, At}
use Rattle.block_map.specs.States.{IsAt, IsMap, MayTake, IsBelow}
use Rattle.block_device.specs.declared.change.Change.{Change}
use Rattle.block_device.specs.Changes.{IsVacant, is_on, takes, names, changed_map, MayChange, AreWithin}

-- after a change a block is on a unit because of it, or was before
pub is_at-set : (states : List BlockState) (b block unit : ℕ) (s : BlockState) → b < length states → IsAt (set states b s) block unit → ((block ≡ b) × (s ≡ At unit)) ⊎ ((block ≡ b → ⊥) × IsAt states block unit)
is_at-set states b block unit s below at =
    elim (cases_eq block b) as (λ _. ((block ≡ b) × (s ≡ At unit)) ⊎ ((block ≡ b → ⊥) × IsAt states block unit)) [
      | inl same ↦ inl (same, same_Some s (At unit) (sym (slice_get-set_same states b s below) ∙ subst (λ k. IsAt (set states b s) k unit) same at))
      | inr other ↦ inr (other, sym (slice_get-set_other states b block s other) ∙ at)
    ]

pub is_on-unit : (unit : ℕ) → is_on unit (At unit) ≡ true
is_on-unit unit = eq-eqb unit unit refl

-- a unit that no block is on stays so, but for the one that gets it
vacant-set : (states : List BlockState) (b : ℕ) (s t : BlockState) → b < length states → ((unit : ℕ) → s ≡ At unit → t ≡ At unit → ⊥) → IsVacant states t → IsVacant (set states b s) t
vacant-set states b s Absent below apart vacant = tt
vacant-set states b s Scarred below apart vacant = tt
vacant-set states b s (At unit) below apart vacant = (
  omega (arith, length-set states b s, vacant.0),
  λ block at. elim (is_at-set states b block unit s below at) as (λ _. ⊥) [
    | inl here ↦ apart unit here.1 refl
    | inr there ↦ vacant.1 block there.1
  ],
)

takes_apart : (unit : ℕ) (s t : BlockState) (d : Change) (ds : List Change) → d.state ≡ t → takes (d ∷ ds) s ≡ false → s ≡ At unit → t ≡ At unit → ⊥
takes_apart unit s t d ds is none s_is t_is =
    let none_at : takes (d ∷ ds) (At unit) ≡ false = subst (λ x. takes (d ∷ ds) x ≡ false) s_is none in
    both_ways (is_on unit d.state) (or_parts (is_on unit d.state) (takes ds (At unit)) none_at).0 (ap (is_on unit) (is ∙ t_is) ∙ is_on-unit unit)

takes-later : (d : Change) (ds : List Change) (s : BlockState) → takes (d ∷ ds) s ≡ false → takes ds s ≡ false
takes-later d ds Absent none = refl
takes-later d ds Scarred none = refl
takes-later d ds (At unit) none = (or_parts (is_on unit d.state) (takes ds (At unit)) none).1

may_change-set : (states : List BlockState) (b : ℕ) (s : BlockState) (cs : List Change) → b < length states → takes cs s ≡ false → MayChange states cs → MayChange (set states b s) cs
may_change-set states b s [] below none may = tt
may_change-set states b s (d ∷ ds) below none may = (
  omega (arith, length-set states b s, may.0),
  vacant-set states b s d.state below (λ unit s_is d_is. takes_apart unit s d.state d ds refl none s_is d_is) may.1,
  may.2,
  may.3,
  may_change-set states b s ds below (takes-later d ds s none) may.4,
)

-- once one of them is made, the map may take the others
pub may_change-later : (states : List BlockState) (c : Change) (cs : List Change) → MayChange states (c ∷ cs) → MayChange (set states c.block c.state) cs
may_change-later states c cs may = may_change-set states c.block c.state cs may.0 may.3 may.4

pub vacant_may_take : (states : List BlockState) (block : ℕ) (s : BlockState) → IsVacant states s → MayTake states block s
vacant_may_take states block Absent vacant = tt
vacant_may_take states block Scarred vacant = tt
vacant_may_take states block (At unit) vacant = (vacant.0, λ other at. absurd (vacant.1 other at))

-- a unit of the changes is on no block
pub vacant_unit : (states : List BlockState) (s : BlockState) (unit block : ℕ) → IsVacant states s → s ≡ At unit → IsAt states block unit → ⊥
vacant_unit states s unit block vacant is at = (subst (IsVacant states) is vacant).1 block at

pub is_map-set : (states : List BlockState) (b : ℕ) (s : BlockState) → b < length states → IsVacant states s → IsMap states → IsMap (set states b s)
is_map-set states b s below vacant is_map = record {
  within = λ block unit at. elim (is_at-set states b block unit s below at) as (λ _. unit < length (set states b s) + 64) [
    | inl here ↦ omega (arith, length-set states b s, (subst (IsVacant states) here.1 vacant).0)
    | inr there ↦ omega (arith, length-set states b s, is_map.within block unit there.1)
  ];
  apart = λ x y unit at_x at_y. elim (is_at-set states b x unit s below at_x) as (λ _. x ≡ y) [
    | inl x_here ↦ elim (is_at-set states b y unit s below at_y) as (λ _. x ≡ y) [
      | inl y_here ↦ x_here.0 ∙ sym y_here.0
      | inr y_there ↦ absurd (vacant_unit states s unit y vacant x_here.1 y_there.1)
    ]
    | inr x_there ↦ elim (is_at-set states b y unit s below at_y) as (λ _. x ≡ y) [
      | inl y_here ↦ absurd (vacant_unit states s unit x vacant y_here.1 x_there.1)
      | inr y_there ↦ is_map.apart x y unit x_there.1 y_there.1
    ]
  ];
}

pub length-changed_map : (cs : List Change) (states : List BlockState) → length (changed_map cs states) ≡ length states
length-changed_map [] states = refl
length-changed_map (c ∷ cs) states = length-changed_map cs (set states c.block c.state) ∙ length-set states c.block c.state

-- the map stays one
pub is_map-changed : (cs : List Change) (states : List BlockState) → MayChange states cs → IsMap states → IsMap (changed_map cs states)
is_map-changed [] states may is_map = is_map
is_map-changed (c ∷ cs) states may is_map =
    is_map-changed cs (set states c.block c.state) (may_change-later states c cs may) (is_map-set states c.block c.state may.0 may.1 is_map)

below_from_vacant : (states : List BlockState) (s : BlockState) (limit : ℕ) → length states + 64 ≤ limit → IsVacant states s → IsBelow limit s
below_from_vacant states Absent limit most vacant = tt
below_from_vacant states Scarred limit most vacant = tt
below_from_vacant states (At unit) limit most vacant = omega (arith, vacant.0)

-- blocks and units of the changes are on the device
pub within_from_may : (states : List BlockState) (cs : List Change) (blocks : ℕ) → length states ≡ blocks → MayChange states cs → AreWithin blocks cs
within_from_may states [] blocks all may = tt
within_from_may states (c ∷ cs) blocks all may =
    (omega (arith, may.0), below_from_vacant states c.state (blocks + 64) (omega arith) may.1, within_from_may states cs blocks all may.4)

pub within_at : (blocks : ℕ) (cs : List Change) (i : ℕ) (d : Change) → AreWithin blocks cs → i < length cs → ((get_or cs i d).block < blocks) × IsBelow (blocks + 64) (get_or cs i d).state
within_at blocks [] i d within below = absurd (omega arith)
within_at blocks (c ∷ cs) zero d within below = (within.0, within.1)
within_at blocks (c ∷ cs) (suc i) d within below = within_at blocks cs i d within.2 (omega arith)

pub below-le : (s : BlockState) (a b : ℕ) → a ≤ b → IsBelow a s → IsBelow b s
below-le Absent a b le below = tt
below-le Scarred a b le below = tt
below-le (At unit) a b le below = omega arith

-- one change alone
pub may_change_one : (states : List BlockState) (c : Change) → c.block < length states → IsVacant states c.state → MayChange states (c ∷ [])
may_change_one states c below vacant = (below, vacant, refl, none c.state, tt)
  where
    none : (s : BlockState) → takes [] s ≡ false
    none Absent = refl
    none Scarred = refl
    none (At unit) = refl

-- one change more, of another block to another unit
pub may_change-push : (states : List BlockState) (cs : List Change) (c : Change) → c.block < length states → IsVacant states c.state → names cs c.block ≡ false → takes cs c.state ≡ false → MayChange states cs → MayChange states (cs ++ c ∷ [])
may_change-push states [] c below vacant fresh none may = may_change_one states c below vacant
may_change-push states (d ∷ ds) c below vacant fresh none may = (
  may.0,
  may.1,
  names-push ds c d.block may.2 (λ e. both_ways (d.block == c.block) (or_parts (d.block == c.block) (names ds c.block) fresh).0 (eq-eqb d.block c.block (sym e))),
  takes-push ds c d.state may.3 (λ unit d_is c_is. takes_apart unit c.state d.state d ds refl none c_is d_is),
  may_change-push states ds c below vacant (or_parts (d.block == c.block) (names ds c.block) fresh).1 (takes-later d ds c.state none) may.4,
)
  where
    names-push : (cs : List Change) (c : Change) (b : ℕ) → names cs b ≡ false → (c.block ≡ b → ⊥) → names (cs ++ c ∷ []) b ≡ false
    names-push [] c b none other = or_from (c.block == b) false (ne_eqb c.block b other) refl
    names-push (e ∷ es) c b none other =
        let parts = or_parts (e.block == b) (names es b) none in
        or_from (e.block == b) (names (es ++ c ∷ []) b) parts.0 (names-push es c b parts.1 other)

    not_on : (unit : ℕ) (s : BlockState) → (s ≡ At unit → ⊥) → is_on unit s ≡ false
    not_on unit Absent other = refl
    not_on unit Scarred other = refl
    not_on unit (At u) other = ne_eqb u unit (λ e. other (ap At e))

    takes-push_at : (cs : List Change) (c : Change) (unit : ℕ) → takes cs (At unit) ≡ false → (c.state ≡ At unit → ⊥) → takes (cs ++ c ∷ []) (At unit) ≡ false
    takes-push_at [] c unit none other = or_from (is_on unit c.state) false (not_on unit c.state other) refl
    takes-push_at (e ∷ es) c unit none other =
        let parts = or_parts (is_on unit e.state) (takes es (At unit)) none in
        or_from (is_on unit e.state) (takes (es ++ c ∷ []) (At unit)) parts.0 (takes-push_at es c unit parts.1 other)

    takes-push : (cs : List Change) (c : Change) (s : BlockState) → takes cs s ≡ false → ((unit : ℕ) → s ≡ At unit → c.state ≡ At unit → ⊥) → takes (cs ++ c ∷ []) s ≡ false
    takes-push cs c Absent none other = refl
    takes-push cs c Scarred none other = refl
    takes-push cs c (At unit) none other = takes-push_at cs c unit none (other unit refl)
