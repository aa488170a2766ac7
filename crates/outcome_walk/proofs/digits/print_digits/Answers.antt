use Rattle.std.proofs.Common.{◌≡◌, ◌-◌, ◌++◌, nat_lt, drop, length, ap, append-nil, arith, sym, ◌∙◌}
use Rattle.outcome_walk.specs.Numbers.{value_of}
use Rattle.outcome_walk.proofs.ValueLemmas.{value_end}
use Rattle.outcome_walk.proofs.SpellLemmas.{any_next, spelled, spelled_none, spelled_value, text_next, zero_value}
use Rattle.outcome_walk.proofs.digits.print_digits.Goals as goal

pub loop-n-init : goal.loop-n-init
loop-n-init c =
    let ds = c.args.digits.now in
    let zero : value_of (drop (length ds - 0) ds) ≡ 0 = value_end ds (length ds - 0) (omega arith) in
    record {
      text = sym (ap (λ n. c.args.out.now.items ++ spelled n) zero ∙ ap (λ text. c.args.out.now.items ++ text) spelled_none ∙ append-nil c.args.out.now.items);
      any = sym (ap (nat_lt 0) zero);
    }

pub loop-n-preserved : goal.loop-n-preserved
loop-n-preserved c =
    let ds = c.args.digits.now in
    let n = c.loop-n.n in
    let i = c.loop-n.invariant in
    let digit = c.digit_at.ensures in
    let printed = c.in_ok-any.ensures in
    record {
      text = text_next ds n c.loop-n-test.true c.digit_at.result digit.value digit.digit c.args.out.now.items c.loop-n.out.items c.print_digit.new.out.items c.loop-n.any i.text i.any printed.text;
      any = printed.any ∙ any_next ds n c.loop-n-test.true c.digit_at.result digit.value c.loop-n.any i.any;
    }

pub returns-in_ok-push : goal.returns-in_ok-push
returns-in_ok-push c =
    let i = c.loop-n.invariant in
    zero_value c.args.digits.now c.loop-n.n c.loop-n-test.false c.args.out.now.items c.loop-n.out.items c.push.new.self.items c.loop-n.any c.if-not-any.true i.any i.text c.in_ok-push.ensures.ok

pub returns-else-not-any : goal.returns-else-not-any
returns-else-not-any c =
    let i = c.loop-n.invariant in
    spelled_value c.args.digits.now c.loop-n.n c.loop-n-test.false c.args.out.now.items c.loop-n.out.items c.loop-n.any c.if-not-any.false i.any i.text
