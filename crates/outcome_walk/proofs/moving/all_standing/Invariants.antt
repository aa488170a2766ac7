use Rattle.std.proofs.Common.{◌≡◌, true, map, take}
use Rattle.outcome_walk.specs.Walking.{both}
use Rattle.outcome_walk.proofs.moving.all_standing.Given as goal

abbrev pub invariant-loop-place : goal.invariant-loop-place
invariant-loop-place l = l.sides.items ≡ map (λ _. both true) (take l._place-index l.places)
