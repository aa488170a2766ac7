use Rattle.std.proofs.Common.{◌≡◌, ◌++◌, drop}
use Rattle.std.specs.List.{flat_map}
use Rattle.outcome_walk.specs.Holding.{trail_held, trails_held}
use Rattle.outcome_walk.specs.Steps.{moves_held, with_move}
use Rattle.outcome_walk.proofs.found.Found.grow.Given as goal

abbrev pub invariant-loop-choice : goal.invariant-loop-choice
invariant-loop-choice l =
    trails_held l.grown.items ++ flat_map (with_move (trail_held l.self)) (moves_held (drop l.choice-index l.moves))
    ≡ trails_held l.fn.grown.items ++ flat_map (with_move (trail_held l.self)) (moves_held l.moves)
