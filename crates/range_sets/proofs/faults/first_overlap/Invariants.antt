use Rattle.std.proofs.Common.{◌≡◌, true, take}
use Rattle.range_sets.specs.Ranges.{is_disjoint}
use Rattle.range_sets.proofs.faults.first_overlap.Given as goal

abbrev pub invariant-loop-i : goal.invariant-loop-i
invariant-loop-i l = is_disjoint (take l.i l.ranges) ≡ true
