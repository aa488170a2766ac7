use Rattle.std.proofs.Common.{◌≡◌, false, take}
use Rattle.std.specs.List.{list_any}
use Rattle.nvm_base.specs.Units.{overlap}
use Rattle.range_sets.proofs.faults.meets.Given as goal

abbrev pub invariant-loop-earlier : goal.invariant-loop-earlier
invariant-loop-earlier l = list_any (λ r. overlap r l.range) (take l.earlier-index l.ranges) ≡ false
