use Rattle.std.proofs.Common.{◌≡◌, ◌+◌, take, drop}
use Rattle.std.specs.Option.{option_map}
use Rattle.range_sets.specs.Ranges.{offset_of_span, total_of}
use Rattle.range_sets.proofs.walk.offset_of_span.Given as goal

abbrev pub invariant-loop-range : goal.invariant-loop-range
invariant-loop-range l = record {
  before : l.before ≡ total_of (take l.range-index l.ranges);
  found : option_map (λ offset. l.before + offset) (offset_of_span (drop l.range-index l.ranges) l.span) ≡ offset_of_span l.ranges l.span;
}
