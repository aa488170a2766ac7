use Rattle.std.proofs.Common.{◌≡◌, ◌++◌, drop}
use Rattle.outcome_walk.specs.Holding.{ways_held}
use Rattle.outcome_walk.specs.Steps.{moves, moves_held}
use Rattle.outcome_walk.proofs.steps.moves.Given as goal

abbrev pub invariant-loop-choice : goal.invariant-loop-choice
invariant-loop-choice l = moves_held l.moves.items ++ moves l.places l.links (ways_held (drop l.choice-index l.choices)) ≡ moves l.places l.links (ways_held l.choices)
