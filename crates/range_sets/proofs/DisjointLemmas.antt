-- Which ranges are a set.
use Rattle.std.proofs.Common.{◌≡◌, ◌<◌, ◌≤◌, ◌+◌, ◌^◌, ◌&&◌, ◌||◌, ℕ, zero, suc, Bool, true, false, not, List, [], ◌∷◌, ◌++◌, All, Some, None, cond, eqb, length, get_or, take, inl, inr, arith, refl, sym, ap, ap₂, ◌∙◌}
use Rattle.std.specs.List.{list_any, position_or_len}
use Rattle.std.proofs.lemmas.Bool.{cases_lt, cases_Bool, lt-ltb, eqb-false, false≢true, not-true, and_parts, or_parts}
use Rattle.std.proofs.lemmas.Option.{none-some}
use Rattle.std.proofs.lemmas.List.Sums.{fails_before_first}
use Rattle.std.proofs.lemmas.List.{take_more}
use Rattle.std.proofs.lemmas.List.Folds.{list_any-append}
use Rattle.nvm_base.specs.declared.units.Span.{Span}
use Rattle.nvm_base.specs.Units.{overlap}
use Rattle.range_sets.specs.Faults.{first_empty, IsFirstOverlap}
use Rattle.range_sets.specs.Ranges.{HasBytes, IsInReach, is_disjoint, total_of, IsRangeSet}

shuffle : (a o d b : Bool) → (not (a || (o || false)) && (d && not b)) ≡ ((not a && d) && not (o || b))
shuffle true o d b = refl
shuffle false true true b = refl
shuffle false true false b = refl
shuffle false false d b = refl

is_disjoint_push : (ranges : List Span) (r : Span) → is_disjoint (ranges ++ r ∷ []) ≡ (is_disjoint ranges && not (list_any (λ e. overlap e r) ranges))
is_disjoint_push [] r = refl
is_disjoint_push (x ∷ rs) r =
    ap₂ (λ a b. not a && b) (list_any-append (overlap x) rs (r ∷ [])) (is_disjoint_push rs r)
    ∙ shuffle (list_any (overlap x) rs) (overlap x r) (is_disjoint rs) (list_any (λ e. overlap e r) rs)

-- whether the ranges up to an index are disjoint, from whether that one meets an earlier one
pub is_disjoint_more : (ranges : List Span) (i : ℕ) (d : Span) (meets : Bool) → i < length ranges → is_disjoint (take i ranges) ≡ true → meets ≡ list_any (λ e. overlap e (get_or ranges i d)) (take i ranges) → is_disjoint (take (i + 1) ranges) ≡ not meets
is_disjoint_more ranges i d meets within so_far is =
    ap is_disjoint (take_more ranges i d within)
    ∙ is_disjoint_push (take i ranges) (get_or ranges i d)
    ∙ ap₂ (λ a b. a && not b) so_far (sym is)

-- what refuses an index, or lets the loop go on
pub first_overlap_is : (ranges : List Span) (i : ℕ) (d : Span) → i < length ranges → is_disjoint (take i ranges) ≡ true → true ≡ list_any (λ e. overlap e (get_or ranges i d)) (take i ranges) → IsFirstOverlap ranges i
first_overlap_is ranges i d within so_far meets = record { before = so_far; with_it = is_disjoint_more ranges i d true within so_far meets }

-- no range is empty where none is the first that is
pub some_bytes : (ranges : List Span) → first_empty ranges ≡ None → All HasBytes ranges
some_bytes ranges none k d within =
    let p = λ (r : Span). eqb r.len 0 in
    let past : length ranges ≤ position_or_len p ranges = elim (cases_lt (position_or_len p ranges) (length ranges)) [
      | inl some ↦ absurd (none-some (position_or_len p ranges) (sym none ∙ ap (λ b. cond b (Some (position_or_len p ranges)) None) (lt-ltb _ _ some)))
      | inr past ↦ past
    ] in
    let here = fails_before_first p ranges k d (omega arith) in
    let not_zero = eqb-false _ _ here in
    omega arith

pub range_set : (ranges : List Span) → All IsInReach ranges → total_of ranges ≤ 2 ^ 40 → first_empty ranges ≡ None → is_disjoint ranges ≡ true → IsRangeSet ranges
range_set ranges ends total none disjoint = record { some = some_bytes ranges none; ends = ends; total = total; disjoint = disjoint }

none_in_front : (p : Span → Bool) (ranges : List Span) (i : ℕ) → list_any p ranges ≡ false → list_any p (take i ranges) ≡ false
none_in_front p ranges zero none = refl
none_in_front p [] (suc i) none = refl
none_in_front p (r ∷ rs) (suc i) none =
    let parts = or_parts (p r) (list_any p rs) none in
    ap₂ (λ a b. a || b) parts.0 (none_in_front p rs i parts.1)

disjoint_in_front : (ranges : List Span) (i : ℕ) → is_disjoint ranges ≡ true → is_disjoint (take i ranges) ≡ true
disjoint_in_front ranges zero disjoint = refl
disjoint_in_front [] (suc i) disjoint = refl
disjoint_in_front (r ∷ rs) (suc i) disjoint =
    let parts = and_parts (not (list_any (overlap r) rs)) (is_disjoint rs) disjoint in
    ap₂ (λ a b. not a && b) (none_in_front (overlap r) rs i (not-true _ parts.0)) (disjoint_in_front rs i parts.1)

-- where there is a first overlap, ranges are not disjoint
pub overlap_not_disjoint : (ranges : List Span) (i : ℕ) → IsFirstOverlap ranges i → is_disjoint ranges ≡ false
overlap_not_disjoint ranges i first =
    elim (cases_Bool (is_disjoint ranges)) [
      | inl disjoint ↦ absurd (false≢true (sym first.with_it ∙ disjoint_in_front ranges (i + 1) disjoint))
      | inr not_ ↦ not_
    ]
