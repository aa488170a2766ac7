use Rattle.std.proofs.Common.{◌≡◌, ◌++◌, drop}
use Rattle.outcome_walk.specs.Steps.{steps}
use Rattle.outcome_walk.proofs.steps.steps.Given as goal

abbrev pub invariant-loop-i : goal.invariant-loop-i
invariant-loop-i l = l.steps.items ++ steps (drop l.i l.places) (drop l.i l.links) l.fits ≡ steps l.places l.links l.fits
