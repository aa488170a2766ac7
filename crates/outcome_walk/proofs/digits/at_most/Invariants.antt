use Rattle.std.proofs.Common.{◌≡◌, ◌-◌, ◌≤◌, drop, length}
use Rattle.outcome_walk.specs.Numbers.{value_of}
use Rattle.outcome_walk.proofs.digits.at_most.Given as goal

abbrev pub invariant-loop-n : goal.invariant-loop-n
invariant-loop-n l = record {
  value : l.value ≡ value_of (drop (length l.digits - l.n) l.digits);
  within : l.value ≤ l.most;
}
