-- Blocks of spans that become absent or scarred.
use Rattle.std.proofs.Common.{◌≡◌, inl, inr, ℕ, zero, suc, Bool, true, false, ◌||◌, ◌==◌, ◌+◌, List, [], ◌∷◌, ◌++◌, set, slice_get, Option, Some, None, option_map, if◌then◌else◌, refl, sym, ◌∙◌, ap, ap₂, arith}
use Rattle.std.specs.List.{list_any}
use Rattle.std.proofs.lemmas.Bool.{cases_eq, eq-eqb, ne_eqb, both_ways}
use Rattle.std.proofs.lemmas.Bool.Decides.{nat_tests}
use Rattle.std.proofs.lemmas.Option.{slice_get-map}
use Rattle.nvm_base.specs.declared.units.Span.{Span}
use Rattle.nvm_model.specs.Numbered.{is_among, list_from}
use Rattle.nvm_model.specs.Blocks.{change_block, change}
use Rattle.nvm_model.proofs.NumberedLemmas.{slice_get-map_from}
use Rattle.word_tables.specs.declared.geometry.Geometry.{Geometry}
use Rattle.block_map.specs.declared.state.BlockState.{BlockState}
use Rattle.block_map.specs.declared.state.BlockState.TheVariants.{Absent, Scarred, At}
use Rattle.block_device.specs.declared.change.Change.{Change}
use Rattle.block_device.specs.Object.{is_at}
use Rattle.block_device.specs.Reading.{block_read, map_read}
use Rattle.block_device.specs.Changes.{bare_block, changed_map, changes_in}
use Rattle.free_pool.proofs.BesideLemmas.{slice_get-set_other}
use Rattle.block_device.proofs.SpanLemmas.{change_to}

pub same_items : {A : Type 0} (xs ys : List A) → ((i : ℕ) → slice_get xs i ≡ slice_get ys i) → xs ≡ ys
same_items [] [] same = refl
same_items [] (y ∷ ys) same = let e = same 0 in cc
same_items (x ∷ xs) [] same = let e = same 0 in cc
same_items (x ∷ xs) (y ∷ ys) same =
    let e : Some x ≡ Some y = same 0 in
    let head : x ≡ y = cc in
    ap₂ ◌∷◌ head (same_items xs ys (λ i. same (suc i)))

pub changed_map-append : (cs ds : List Change) (states : List BlockState) → changed_map (cs ++ ds) states ≡ changed_map ds (changed_map cs states)
changed_map-append [] ds states = refl
changed_map-append (c ∷ cs) ds states = changed_map-append cs ds (set states c.block c.state)

-- that state where a test holds, else the one before
abbrev or_else : Bool → BlockState → BlockState → BlockState
or_else b state old = if b then state else old

or_else-not : (b : Bool) (state : BlockState) (o : Option BlockState) → b ≡ false → o ≡ option_map (or_else b state) o
or_else-not true state o out = absurd (both_ways true out refl)
or_else-not false state None out = refl
or_else-not false state (Some x) out = refl

set_here : (states : List BlockState) (state : BlockState) (i : ℕ) → slice_get (set states i state) i ≡ option_map (or_else true state) (slice_get states i)
set_here [] state i = refl
set_here (s ∷ ss) state zero = refl
set_here (s ∷ ss) state (suc i) = set_here ss state i

slice_get-set : (states : List BlockState) (b : ℕ) (state : BlockState) (i : ℕ) → slice_get (set states b state) i ≡ option_map (or_else (b == i) state) (slice_get states i)
slice_get-set states b state i =
    elim (cases_eq b i) as (λ _. slice_get (set states b state) i ≡ option_map (or_else (b == i) state) (slice_get states i)) [
      | inl is ↦
          ap (λ k. slice_get (set states k state) i) is
          ∙ set_here states state i
          ∙ ap (λ t. option_map (or_else t state) (slice_get states i)) (sym (eq-eqb b i is))
      | inr other ↦ slice_get-set_other states b i state (λ e. other (sym e)) ∙ or_else-not (b == i) state (slice_get states i) (ne_eqb b i other)
    ]

option_map-both : (a b : Bool) (state : BlockState) (o : Option BlockState) → option_map (or_else a state) (option_map (or_else b state) o) ≡ option_map (or_else (b || a) state) o
option_map-both a b state None = refl
option_map-both true true state (Some x) = refl
option_map-both true false state (Some x) = refl
option_map-both false true state (Some x) = refl
option_map-both false false state (Some x) = refl

is_among-first : (start count i : ℕ) → (start == i || is_among (suc start) count i) ≡ is_among start (suc count) i
is_among-first start count i = grind (arith, nat_tests)

is_among-none : (start i : ℕ) → is_among start 0 i ≡ false
is_among-none start i = grind (arith, nat_tests)

slice_get-list_from : (state : BlockState) (start count : ℕ) (states : List BlockState) (i : ℕ) → slice_get (changed_map (list_from (change_to state) start count) states) i ≡ option_map (or_else (is_among start count i) state) (slice_get states i)
slice_get-list_from state start zero states i = or_else-not (is_among start 0 i) state (slice_get states i) (is_among-none start i)
slice_get-list_from state start (suc count) states i =
    slice_get-list_from state (suc start) count (set states start state) i
    ∙ ap (option_map (or_else (is_among (suc start) count i) state)) (slice_get-set states start state i)
    ∙ option_map-both (is_among (suc start) count i) (start == i) state (slice_get states i)
    ∙ ap (λ b. option_map (or_else b state) (slice_get states i)) (is_among-first start count i)

abbrev is_in : List Span → ℕ → Bool
is_in spans i = list_any (λ (span : Span). is_among span.start span.len i) spans

slice_get-changes_in : (spans : List Span) (state : BlockState) (states : List BlockState) (i : ℕ) → slice_get (changed_map (changes_in spans state) states) i ≡ option_map (or_else (is_in spans i) state) (slice_get states i)
slice_get-changes_in [] state states i = or_else-not false state (slice_get states i) refl
slice_get-changes_in (x ∷ xs) state states i =
    let first = list_from (change_to state) x.start x.len in
    ap (λ ss. slice_get ss i) (changed_map-append first (changes_in xs state) states)
    ∙ slice_get-changes_in xs state (changed_map first states) i
    ∙ ap (option_map (or_else (is_in xs i) state)) (slice_get-list_from state x.start x.len states i)
    ∙ option_map-both (is_in xs i) (is_among x.start x.len i) state (slice_get states i)

module _ (geo : Geometry) (bad : ℕ → Bool) (word : ℕ → ℕ) where
  bare_read : (state : BlockState) → is_at state ≡ false → block_read geo bad word state ≡ bare_block state
  bare_read Absent bare = refl
  bare_read Scarred bare = refl
  bare_read (At unit) bare = cc

  changed_read : (b : Bool) (state : BlockState) (o : Option BlockState) → is_at state ≡ false → option_map (block_read geo bad word) (option_map (or_else b state) o) ≡ option_map (λ old. if b then bare_block state else old) (option_map (block_read geo bad word) o)
  changed_read b state None bare = refl
  changed_read true state (Some x) bare = ap Some (bare_read state bare)
  changed_read false state (Some x) bare = refl

  -- the blocks of the map with the changes are those of the map before, changed
  pub changed_blocks : (spans : List Span) (state : BlockState) (states : List BlockState) → is_at state ≡ false → map_read geo bad word (changed_map (changes_in spans state) states) ≡ change spans (bare_block state) (map_read geo bad word states)
  unfolding change
  changed_blocks spans state states bare =
      same_items _ _ (λ i.
      let e : 0 + i ≡ i = omega arith in
      slice_get-map (block_read geo bad word) (changed_map (changes_in spans state) states) i
      ∙ ap (option_map (block_read geo bad word)) (slice_get-changes_in spans state states i)
      ∙ changed_read (is_in spans i) state (slice_get states i) bare
      ∙ ap (option_map (change_block spans (bare_block state) i)) (sym (slice_get-map (block_read geo bad word) states i))
      ∙ ap (λ k. option_map (change_block spans (bare_block state) k) (slice_get (map_read geo bad word states) i)) (sym e)
      ∙ sym (slice_get-map_from (change_block spans (bare_block state)) 0 (map_read geo bad word states) i))
