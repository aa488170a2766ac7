use Rattle.std.proofs.Common.{◌≤◌, arith, length, min}
use Rattle.outcome_walk.proofs.StepLemmas.{all_steps}
use Rattle.outcome_walk.proofs.steps.steps.Goals as goal

pub returns : goal.returns
returns c =
    let a = c.args in
    let past : min (length a.places.now) (length a.links.now) ≤ c.loop-i.i = omega (arith, c.min-i-end.ensures, c.loop-i-test.false) in
    all_steps a.places.now a.links.now a.fits.now c.loop-i.i past c.loop-i.steps.items _ c.loop-i.invariant
