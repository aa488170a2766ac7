use Rattle.std.proofs.Common.{◌-◌, length, arith}
use Rattle.outcome_walk.proofs.ValueLemmas.{too_large, value_next}
use Rattle.outcome_walk.proofs.digits.at_most.Goals as goal

pub returns-then-value-most : goal.returns-then-value-most
returns-then-value-most c =
    let ds = c.args.digits.now in
    let n = c.loop-n.n in
    let value = c.loop-n.invariant.value in
    let digit = c.digit_at.ensures.value in
    let next = value_next ds (length ds - 1 - n) (length ds - n) (omega (arith, c.loop-n-test.true)) in
    too_large ds (length ds - 1 - n) c.args.most (omega (arith, next, value, digit, c.from.ensures, c.if-value-most.true))
