use Rattle.std.proofs.Common.{◌≡◌, [], ◌∷◌, drop}
use Rattle.outcome_walk.specs.Holding.{parts_held, trails_held}
use Rattle.outcome_walk.specs.Walking.{begun, walked}
use Rattle.outcome_walk.proofs.walking.walk.Given as goal

abbrev pub invariant-loop-level : goal.invariant-loop-level
invariant-loop-level l = walked l.places (trails_held l.found.items) (parts_held (drop l.level-index l.levels)) ≡ walked l.places (begun l.places ∷ []) (parts_held l.levels)
