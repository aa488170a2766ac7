use Rattle.std.proofs.Common.{◌≡◌, ◌+◌, ◌<◌, ℕ, drop, length, slice_index, sum_by, take}
use Rattle.nvm_base.specs.declared.units.Span.{Span}
use Rattle.file_actions.specs.Rewriting.{byte_laid}
use Rattle.file_actions.proofs.ranges.lay.Given as goal

-- what the ranges from this one on make of the bytes is what all make of those before
abbrev pub invariant-loop-range : goal.invariant-loop-range
invariant-loop-range l = record {
  at : l.at ≡ sum_by (λ (r : Span). r.len) (take l.range-index l.ranges);
  size : length l.out ≡ length l.initial.out;
  bytes : (i : ℕ) → i < length l.initial.out → byte_laid (drop l.range-index l.ranges) (drop l.at l.bytes) (l.offset + i) (slice_index l.out i)
      ≡ byte_laid l.ranges l.bytes (l.offset + i) (slice_index l.initial.out i);
}
