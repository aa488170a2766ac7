use Rattle.std.proofs.Common.{ap, arith, ◌≤◌, ◌∙◌, length, min, option_map}
use Rattle.outcome_walk.proofs.StepLemmas.{stepped_whole, told_some}
use Rattle.outcome_walk.proofs.moving.all_stepped.Goals as goal

pub returns : goal.returns
returns c =
    let a = c.args in
    let i = c.loop-i.invariant in
    let past : min (length a.steps.now) (length a.sides.now) ≤ c.loop-i.i = omega (arith, c.min-count.ensures, c.loop-i-test.false) in
    ap (option_map (λ sides. sides.items)) c.then_some.ensures ∙ told_some (λ sides. sides.items) c.loop-i.any c.loop-i.next
    ∙ stepped_whole a.steps.now a.sides.now c.loop-i.i past c.loop-i.next.items c.loop-i.any i.any i.moved
