-- What tests before a call say.
use Rattle.std.proofs.Common.{◌≡◌, ◌+◌, ◌*◌, ◌≤◌, ◌==◌, ◌||◌, ℕ, Bool, true, false, not, All, List, [], ◌∷◌, length, sum_by, nat_lt, Option, Some, None, Result, Ok, Err, option_map, position, refl, ap, ◌∙◌, subst, sym, arith}
use Rattle.std.specs.List.{list_any, range_with_len}
use Rattle.std.proofs.lemmas.Bool.{false≢true, or_parts}
use Rattle.std.proofs.lemmas.Bool.Decides.{nat_tests}
use Rattle.std.proofs.lemmas.List.Elements.{All-nil, All-cons}
use Rattle.std.proofs.lemmas.List.Sums.{sum_by-cons}
use Rattle.nvm_base.specs.declared.units.Span.{Span}
use Rattle.line_device.specs.Medium.{Medium}
use Rattle.word_tables.specs.declared.geometry.Geometry.{Geometry}
use Rattle.word_tables.specs.Layout.{meta_lines}
use Rattle.nvm_model.specs.Blocks.{first_there}
use Rattle.range_sets.specs.Ranges.{HasBytes, IsInReach}
use Rattle.block_device.specs.declared.fault.BlockFault.{BlockFault}
use Rattle.block_device.specs.declared.fault.BlockFault.TheVariants as fault
use Rattle.block_device.specs.Refusals.Refusal.{Limit, Overlap, Meta}
use Rattle.std.proofs.lemmas.Grind.{common_steps}
use Rattle.block_device.specs.Object.{BlocksState}
use Rattle.block_device.specs.Refusals.{Refusal, Checks, where_, spans_refusal, meta_refusal, atomic_refusal, multiwrite_refusal}

-- what the first of two tests finds, and what the second does where the first passes
pub checks_first : (T : Type 0) (a b : Option Refusal) (f : BlockFault) → Checks {T = T} a (Err f) → Checks {T = T} (first_there a b) (Err f)
checks_first T None b f h = absurd h
checks_first T (Some why) b f h = h

pub checks_second : {S T : Type 0} (a b : Option Refusal) (x : S) (r : Result T BlockFault) → Checks a (Ok x) → Checks b r → Checks (first_there a b) r
checks_second None b x r h k = k
checks_second (Some why) b x r h k = absurd h

-- few enough spans and blocks, of which two overlap
within_limits : (total n : ℕ) → total ≤ 64 → n ≤ 8 → (nat_lt 64 total || nat_lt 8 n) ≡ false
within_limits total n few some = grind (arith, nat_tests)

finds_overlap : (T : Type 0) (many disjoint : Bool) → many ≡ false → disjoint ≡ false → Checks {T = T} (first_there (where_ many Limit) (where_ (not disjoint) Overlap)) (Err fault.Overlap)
finds_overlap T true disjoint m d = absurd (false≢true (sym m))
finds_overlap T false true m d = absurd (false≢true (sym d))
finds_overlap T false false m d = refl

pub overlap_found : (T : Type 0) (total n : ℕ) (disjoint : Bool) → total ≤ 64 → n ≤ 8 → disjoint ≡ false → Checks {T = T} (first_there (where_ (nat_lt 64 total || nat_lt 8 n) Limit) (where_ (not disjoint) Overlap)) (Err fault.Overlap)
overlap_found T total n disjoint few some overlaps = finds_overlap T _ disjoint (within_limits total n few some) overlaps

both_pass : {T : Type 0} (b c : Bool) (v w : Refusal) (x : T) → Checks (first_there (where_ b v) (where_ c w)) (Ok x) → (b ≡ false) × (c ≡ false)
both_pass false false v w x h = (refl, refl)
both_pass false true v w x h = absurd h
both_pass true c v w x h = absurd h

-- spans that pass are in reach, and none is empty
pub record AreRanges (spans : List Span) : Type 0 where
  pub some : All HasBytes spans
  pub ends : All IsInReach spans
  pub total : sum_by (λ (s : Span). s.len) spans ≤ 4096 * length spans

ranges : (count : ℕ) (spans : List Span) → count ≤ 4096 → list_any (λ (s : Span). nat_lt count (s.start + s.len)) spans ≡ false → list_any (λ (s : Span). s.len == 0) spans ≡ false → AreRanges spans
ranges count [] few past empty = record { some = All-nil HasBytes; ends = All-nil IsInReach; total = omega arith }
ranges count (s ∷ ss) few past empty =
    let on = or_parts (nat_lt count (s.start + s.len)) _ past in
    let full = or_parts (s.len == 0) _ empty in
    let rest = ranges count ss few on.1 full.1 in
    let within : s.start + s.len ≤ count = grind (arith, nat_tests, on.0) in
    let some : 1 ≤ s.len = grind (arith, nat_tests, full.0) in
    record {
      some = All-cons HasBytes s ss some rest.some;
      ends = All-cons IsInReach s ss (omega arith) rest.ends;
      total = omega (arith, sum_by-cons (λ (t : Span). t.len) s ss, rest.total);
    }

pub ranges_of_passed : {T : Type 0} (count : ℕ) (spans : List Span) (x : T) → count ≤ 4096 → Checks (spans_refusal count spans) (Ok x) → AreRanges spans
ranges_of_passed count spans x few h =
    let both = both_pass (list_any (λ (s : Span). nat_lt count (s.start + s.len)) spans) (list_any (λ (s : Span). s.len == 0) spans) _ _ x h in
    ranges count spans few both.0 both.1

-- a test of the lines of metadata
pub meta_found : (T : Type 0) (geo : Geometry) (m : Medium) (lines n : ℕ) → lines ≡ meta_lines geo → Some n ≡ position m.is_bad (range_with_len 0 lines) → Checks {T = T} (meta_refusal geo m) (Err (fault.Meta record { 0 = n }))
meta_found T geo m lines n all is =
    subst (λ o. Checks {T = T} (option_map Meta o) (Err (fault.Meta record { 0 = n }))) (is ∙ ap (λ k. position m.is_bad (range_with_len 0 k)) all) refl

pub meta_passes : (T : Type 0) (x : T) (geo : Geometry) (m : Medium) (lines : ℕ) → lines ≡ meta_lines geo → None ≡ position m.is_bad (range_with_len 0 lines) → Checks (meta_refusal geo m) (Ok x)
meta_passes T x geo m lines all is = subst (λ o. Checks (option_map Meta o) (Ok x)) (is ∙ ap (λ k. position m.is_bad (range_with_len 0 k)) all) tt

-- one range is refused as its bytes are
pub one_refusal : (s : BlocksState) (m : Medium) (block len : ℕ) → multiwrite_refusal s m (record { start = block; len = len } ∷ []) ≡ atomic_refusal s m block len
one_refusal s m block len = grind (arith, common_steps)
