use Rattle.std.proofs.Common.{◌≡◌, ◌++◌, take}
use Rattle.outcome_walk.specs.Holding.{trails_held}
use Rattle.outcome_lists.specs.Walks.{trail_lines}
use Rattle.outcome_lists.proofs.printing.print_lines.Given as goal

abbrev pub invariant-loop-outcome : goal.invariant-loop-outcome
invariant-loop-outcome l = l.out.items ≡ l.fn.out.items ++ trail_lines l.places (trails_held (take l.outcome-index l.outcomes))
