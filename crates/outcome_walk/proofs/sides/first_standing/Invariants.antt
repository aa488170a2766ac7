use Rattle.std.proofs.Common.{◌≡◌, drop}
use Rattle.outcome_walk.specs.Walking.{first_from}
use Rattle.outcome_walk.proofs.sides.first_standing.Given as goal

abbrev pub invariant-loop-place : goal.invariant-loop-place
invariant-loop-place l = first_from l.place (drop l.place l.sides) ≡ first_from 0 l.sides
