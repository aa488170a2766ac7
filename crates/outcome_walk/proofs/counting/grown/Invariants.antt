use Rattle.std.proofs.Common.{◌≡◌, ◌+◌, ℕ, List, drop}
use Rattle.outcome_walk.specs.declared.sides.Sides.{Sides}
use Rattle.outcome_walk.specs.Counting.{below, weighed}
use Rattle.outcome_walk.specs.Steps.{moves_held}
use Rattle.outcome_walk.proofs.counting.grown.Given as goal

abbrev pub invariant-loop-crowd : goal.invariant-loop-crowd
invariant-loop-crowd l = (f : List Sides → ℕ) → weighed f l.next.items + weighed (below f (moves_held l.moves.items)) (drop l.crowd-index l.crowds) ≡ weighed (below f (moves_held l.moves.items)) l.crowds
