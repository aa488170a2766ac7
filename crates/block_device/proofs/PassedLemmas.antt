-- What is known once the tests before a call passed.
use Rattle.std.proofs.Common.{◌≡◌, ◌+◌, ◌==◌, ◌||◌, ℕ, Bool, true, false, not, List, length, sum_by, position, nat_lt, Option, Some, None, option_map, Result, Ok, Err, refl, sym}
use Rattle.std.specs.List.{list_any, range_with_len}
use Rattle.std.proofs.lemmas.Bool.{ltb-false, or_parts}
use Rattle.nvm_base.specs.declared.units.Span.{Span}
use Rattle.line_device.specs.Medium.{Medium}
use Rattle.word_tables.specs.declared.geometry.Geometry.{Geometry}
use Rattle.word_tables.specs.Layout.{meta_lines}
use Rattle.range_sets.specs.Ranges.{is_disjoint}
use Rattle.nvm_model.specs.Blocks.{first_there}
use Rattle.block_device.specs.Object.{HasGoodMetadata}
use Rattle.block_device.proofs.PositionLemmas.{fails_below}
use Rattle.block_device.specs.Prepared.{AreThere, AreTogether}
use Rattle.block_device.specs.Refusals.Refusal.{Meta}
use Rattle.block_device.specs.declared.fault.BlockFault.{BlockFault}
use Rattle.block_device.specs.Refusals.{Refusal, Checks, OnWorked, where_, spans_refusal, together_refusal, meta_refusal}

unmapped : {T : Type 0} (o : Option ℕ) (f : ℕ → Refusal) (x : T) → Checks (option_map f o) (Ok x) → o ≡ None
unmapped None f x h = refl
unmapped (Some n) f x h = absurd h

-- no line of metadata is bad
pub meta_passed : {T : Type 0} (geo : Geometry) (m : Medium) (x : T) → Checks (meta_refusal geo m) (Ok x) → HasGoodMetadata geo m
meta_passed geo m x h n below = fails_below m.is_bad (meta_lines geo) n (unmapped (position m.is_bad (range_with_len 0 (meta_lines geo))) (λ line. Meta line) x h) below

both_passed : {T : Type 0} (a b : Bool) (v w : Refusal) (x : T) → Checks (first_there (where_ a v) (where_ b w)) (Ok x) → (a ≡ false) × (b ≡ false)
both_passed false false v w x h = (refl, refl)
both_passed false true v w x h = absurd h
both_passed true b v w x h = absurd h

first_passed : {T : Type 0} (a b : Option Refusal) (x : T) → Checks (first_there a b) (Ok x) → Checks a (Ok x) × Checks b (Ok x)
first_passed None b x h = (tt, h)
first_passed (Some why) b x h = absurd h

pub spans_passed : {T : Type 0} (blocks : ℕ) (spans : List Span) (x : T) → Checks (spans_refusal blocks spans) (Ok x) → AreThere blocks spans
spans_passed blocks spans x h =
    let both = both_passed (list_any (λ (s : Span). nat_lt blocks (s.start + s.len)) spans) (list_any (λ (s : Span). s.len == 0) spans) _ _ x h in
    record { within = both.0; full = both.1 }

pub together_passed : {T : Type 0} (blocks : ℕ) (spans : List Span) (x : T) → Checks (together_refusal blocks spans) (Ok x) → AreTogether blocks spans
together_passed blocks spans x h =
    let total = sum_by (λ (s : Span). s.len) spans in
    let parts = first_passed (spans_refusal blocks spans) _ x h in
    let both = both_passed (nat_lt 64 total || nat_lt 8 (length spans)) (not (is_disjoint spans)) _ _ x parts.1 in
    record {
      there = spans_passed blocks spans x parts.0;
      few = ltb-false 64 total (or_parts (nat_lt 64 total) (nat_lt 8 (length spans)) both.0).0;
      disjoint = positive (is_disjoint spans) both.1;
    }
  where
    positive : (b : Bool) → not b ≡ false → b ≡ true
    positive true out = refl
    positive false out = sym out

pub on_worked : {T : Type 0} (r : Result T BlockFault) (P : Type 0) → P → OnWorked r P
on_worked (Ok x) P p = p
on_worked (Err f) P p = λ _. p
