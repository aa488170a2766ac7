use Rattle.std.proofs.Common.{◌≡◌, [], ◌∷◌, drop, length}
use Rattle.outcome_walk.specs.Counting.{completions, weighed}
use Rattle.outcome_walk.specs.Holding.{parts_held}
use Rattle.outcome_walk.specs.Walking.{begun, walked}
use Rattle.outcome_walk.proofs.counting.count.Given as goal

abbrev pub invariant-loop-level : goal.invariant-loop-level
invariant-loop-level l = weighed (completions l.places (parts_held (drop l.level-index l.levels))) l.crowds.items ≡ length (walked l.places (begun l.places ∷ []) (parts_held l.levels))
