use Rattle.std.proofs.Common.{◌≡◌, ◌+◌, ◌*◌, ℕ, List, drop}
use Rattle.outcome_walk.specs.declared.sides.Sides.{Sides}
use Rattle.outcome_walk.specs.Counting.{below, weighed}
use Rattle.outcome_walk.specs.Steps.{moves_held}
use Rattle.outcome_walk.proofs.crowd.Crowd.grow.Given as goal

abbrev pub invariant-loop-choice : goal.invariant-loop-choice
invariant-loop-choice l = (f : List Sides → ℕ)
    → weighed f l.grown.items + l.self.number * below f (moves_held (drop l.choice-index l.moves)) l.self.sides.items
    ≡ weighed f l.fn.grown.items + l.self.number * below f (moves_held l.moves) l.self.sides.items
