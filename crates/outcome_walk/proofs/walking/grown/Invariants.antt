use Rattle.std.proofs.Common.{◌≡◌, ◌++◌, drop}
use Rattle.std.specs.List.{flat_map}
use Rattle.outcome_walk.specs.Holding.{trails_held, ways_held}
use Rattle.outcome_walk.specs.Steps.{moves_held, with_move}
use Rattle.outcome_walk.specs.Walking.{grown}
use Rattle.outcome_walk.proofs.walking.grown.Given as goal

abbrev pub invariant-loop-outcome : goal.invariant-loop-outcome
invariant-loop-outcome l =
    trails_held l.next.items ++ flat_map (λ t. flat_map (with_move t) (moves_held l.moves.items)) (trails_held (drop l.outcome-index l.found))
    ≡ grown l.places l.links (ways_held l.choices) (trails_held l.found)
