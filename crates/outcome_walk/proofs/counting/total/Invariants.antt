use Rattle.std.proofs.Common.{◌≡◌, ◌+◌, drop}
use Rattle.outcome_walk.specs.Counting.{weighed}
use Rattle.outcome_walk.proofs.counting.total.Given as goal

abbrev pub invariant-loop-crowd : goal.invariant-loop-crowd
invariant-loop-crowd l = l.number + weighed (λ _. 1) (drop l.crowd-index l.crowds) ≡ weighed (λ _. 1) l.crowds
