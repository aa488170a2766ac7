-- Changes to a state without bytes, which a map may always take.
use Rattle.std.proofs.Common.{◌≡◌, inl, inr, ℕ, zero, suc, Bool, true, false, not, ◌&&◌, ◌==◌, ◌+◌, ◌<◌, ◌≤◌, List, [], ◌∷◌, ◌++◌, length, nat_lt, set, refl, sym, ◌∙◌, ap, ap₂, arith}
use Rattle.std.specs.List.{list_any}
use Rattle.std.proofs.lemmas.Bool.{or_parts, or_from, and_parts, not-true, ltb-false, eqb-false, ne_eqb, both_ways}
use Rattle.std.proofs.lemmas.Bool.Decides.{nat_tests}
use Rattle.std.proofs.lemmas.List.Folds.{list_any-append}
use Rattle.std.proofs.lemmas.List.Sums.{sum_by-cons}
use Rattle.nvm_base.specs.declared.units.Span.{Span}
use Rattle.nvm_base.specs.Units.{overlap}
use Rattle.nvm_model.specs.Numbered.{list_from}
use Rattle.line_device.specs.Medium.{Medium}
use Rattle.word_tables.specs.declared.geometry.Geometry.{Geometry}
use Rattle.range_sets.specs.Ranges.{is_disjoint}
use Rattle.free_pool.specs.Beside.{used_by}
use Rattle.block_map.specs.declared.state.BlockState.{BlockState}
use Rattle.block_map.specs.declared.state.BlockState.TheVariants.{Absent, Scarred, At}
use Rattle.block_map.specs.States.{IsAt}
use Rattle.block_device.specs.declared.change.Change.{Change}
use Rattle.block_device.specs.Object.{AreDurable, is_at, unit_on}
use Rattle.block_device.proofs.UnitsOfLemmas.{taken_none, taken_with, unit_on-bare, units_named-cons}
use Rattle.block_device.specs.Changes.{IsVacant, takes, names, changed_map, changes_in, units_named, MayChange, AreTaken}
use Rattle.block_device.proofs.ChangeLemmas.{is_at-set, may_change-later}
use Rattle.block_device.proofs.SpanLemmas.{change_to, length-changes_in}
use Rattle.block_device.specs.Prepared.{AreThere}

-- all of them give that state
abbrev pub AllTo : BlockState → List Change → Type 0
AllTo state [] = Unit {0}
AllTo state (c ∷ cs) = (c.state ≡ state) × AllTo state cs

all_to-append : (state : BlockState) (cs ds : List Change) → AllTo state cs → AllTo state ds → AllTo state (cs ++ ds)
all_to-append state [] ds first second = second
all_to-append state (c ∷ cs) ds first second = (first.0, all_to-append state cs ds first.1 second)

all_to-stretch : (state : BlockState) (start count : ℕ) → AllTo state (list_from (change_to state) start count)
all_to-stretch state start zero = tt
all_to-stretch state start (suc count) = (refl, all_to-stretch state (suc start) count)

pub all_to-changes_in : (spans : List Span) (state : BlockState) → AllTo state (changes_in spans state)
all_to-changes_in [] state = tt
all_to-changes_in (s ∷ ss) state =
    all_to-append state (list_from (change_to state) s.start s.len) (changes_in ss state) (all_to-stretch state s.start s.len) (all_to-changes_in ss state)

module _ (state : BlockState) (bare : is_at state ≡ false) where
  bare_vacant : (states : List BlockState) → IsVacant states state
  bare_vacant states = vacant state bare
    where
      vacant : (s : BlockState) → is_at s ≡ false → IsVacant states s
      vacant Absent out = tt
      vacant Scarred out = tt
      vacant (At unit) out = absurd (both_ways true out refl)

  bare_takes : (cs : List Change) → takes cs state ≡ false
  bare_takes cs = none state bare
    where
      none : (s : BlockState) → is_at s ≡ false → takes cs s ≡ false
      none Absent out = refl
      none Scarred out = refl
      none (At unit) out = absurd (both_ways true out refl)

  not_unit : (unit : ℕ) → state ≡ At unit → ⊥
  not_unit unit is = both_ways (is_at state) bare (ap is_at is)

  -- no block of a stretch is named by one apart from it
  names_apart : (start count i : ℕ) → (start ≤ i → i < start + count → ⊥) → names (list_from (change_to state) start count) i ≡ false
  names_apart start zero i out = refl
  names_apart start (suc count) i out =
      or_from (start == i) (names (list_from (change_to state) (suc start) count) i)
      (ne_eqb start i (λ e. out (omega arith) (omega arith)))
      (names_apart (suc start) count i (λ from to. out (omega arith) (omega arith)))

  may_stretch : (states : List BlockState) (start count : ℕ) (cs : List Change) → start + count ≤ length states → ((i : ℕ) → start ≤ i → i < start + count → names cs i ≡ false) → MayChange states cs → MayChange states (list_from (change_to state) start count ++ cs)
  may_stretch states start zero cs within apart may = may
  may_stretch states start (suc count) cs within apart may =
      let later = list_from (change_to state) (suc start) count in (
        omega arith,
        bare_vacant states,
        list_any-append (λ (c : Change). c.block == start) later cs
            ∙ or_from (names later start) (names cs start) (names_apart (suc start) count start (λ from to. omega arith)) (apart start (omega arith) (omega arith)),
        bare_takes (later ++ cs),
        may_stretch states (suc start) count cs (omega arith) (λ i from to. apart i (omega arith) (omega arith)) may,
      )

  -- spans that a span overlaps none of name no block of it
  names_elsewhere : (span : Span) (spans : List Span) (i : ℕ) → span.start ≤ i → i < span.start + span.len → list_any (overlap span) spans ≡ false → names (changes_in spans state) i ≡ false
  names_elsewhere span [] i from to none = refl
  names_elsewhere span (s ∷ ss) i from to none =
      let parts = or_parts (overlap span s) (list_any (overlap span) ss) none in
      list_any-append (λ (c : Change). c.block == i) (list_from (change_to state) s.start s.len) (changes_in ss state)
      ∙ or_from (names (list_from (change_to state) s.start s.len) i) (names (changes_in ss state) i)
      (names_apart s.start s.len i (λ from_s to_s. both_ways (overlap span s) parts.0 (meets span.start span.len s.start s.len i from to from_s to_s)))
      (names_elsewhere span ss i from to parts.1)
    where
      meets : (a m b n i : ℕ) → a ≤ i → i < a + m → b ≤ i → i < b + n → (nat_lt a (b + n) && nat_lt b (a + m)) ≡ true
      meets a m b n i from to from_s to_s = grind (arith, nat_tests)

  pub bare_may_change : (states : List BlockState) (spans : List Span) → list_any (λ (s : Span). nat_lt (length states) (s.start + s.len)) spans ≡ false → is_disjoint spans ≡ true → MayChange states (changes_in spans state)
  bare_may_change states [] within disjoint = tt
  bare_may_change states (s ∷ ss) within disjoint =
      let on = or_parts (nat_lt (length states) (s.start + s.len)) (list_any (λ (s : Span). nat_lt (length states) (s.start + s.len)) ss) within in
      let parts = and_parts (not (list_any (overlap s) ss)) (is_disjoint ss) disjoint in
      may_stretch states s.start s.len (changes_in ss state) (ltb-false (length states) (s.start + s.len) on.0)
      (λ i from to. names_elsewhere s ss i from to (not-true (list_any (overlap s) ss) parts.0))
      (bare_may_change states ss on.1 parts.1)

  -- they name no unit
  pub bare_taken : (free : List Bool) (cs : List Change) → AllTo state cs → AreTaken free cs
  bare_taken free [] all = taken_none free
  bare_taken free (c ∷ cs) all = taken_with free c cs (λ unit is. absurd (not_unit unit (sym all.0 ∙ is))) (bare_taken free cs all.1)

  pub bare_units : (cs : List Change) → AllTo state cs → units_named cs ≡ 0
  bare_units [] all = refl
  bare_units (c ∷ cs) all =
      units_named-cons c cs ∙ ap₂ ◌+◌ (ap used_by (ap unit_on all.0 ∙ unit_on-bare state bare)) (bare_units cs all.1)

  -- what the map names after them it named before
  pub bare_was_at : (states : List BlockState) (cs : List Change) (block unit : ℕ) → AllTo state cs → MayChange states cs → IsAt (changed_map cs states) block unit → IsAt states block unit
  bare_was_at states [] block unit all may at = at
  bare_was_at states (c ∷ cs) block unit all may at =
      let before = bare_was_at (set states c.block c.state) cs block unit all.1 (may_change-later states c cs may) at in
      elim (is_at-set states c.block block unit c.state may.0 before) as (λ _. IsAt states block unit) [
        | inl here ↦ absurd (not_unit unit (sym all.0 ∙ here.1))
        | inr there ↦ there.1
      ]

  pub bare_durable : (geo : Geometry) (m : Medium) (states : List BlockState) (cs : List Change) → AllTo state cs → MayChange states cs → AreDurable geo m states → AreDurable geo m (changed_map cs states)
  bare_durable geo m states cs all may durable block unit at = durable block unit (bare_was_at states cs block unit all may at)

-- spans that are there have blocks
pub some_changes : (blocks : ℕ) (spans : List Span) (state : BlockState) → 0 < length spans → AreThere blocks spans → 0 < length (changes_in spans state)
some_changes blocks [] state some there = absurd (omega arith)
some_changes blocks (s ∷ ss) state some there =
    let full = eqb-false s.len 0 (or_parts (s.len == 0) (list_any (λ (s : Span). s.len == 0) ss) there.full).0 in
    let sums = length-changes_in (s ∷ ss) state ∙ sum_by-cons (λ (s : Span). s.len) s ss in
    omega arith
