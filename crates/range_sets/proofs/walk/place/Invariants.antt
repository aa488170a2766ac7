use Rattle.std.proofs.Common.{◌≡◌, drop}
use Rattle.range_sets.specs.Ranges.{address_of}
use Rattle.range_sets.proofs.walk.place.Given as goal

abbrev pub invariant-loop-range : goal.invariant-loop-range
invariant-loop-range l = address_of (drop l.range-index l.ranges) l.rest ≡ address_of l.ranges l.offset
