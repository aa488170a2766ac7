use Rattle.std.proofs.Common.{rules, tests, arith, sym, ◌∙◌, inl, inr, ◌≡◌, get_or, false}
use Rattle.std.specs.Char.{is_ascii_digit}
use Rattle.nvm_base.proofs.NumberLemmas.{number_of-outside, number_of-bad, number_of-all, then_some_fits}
use Rattle.nvm_base.proofs.numbers.read_number.Goals as goal
use Rattle.nvm_base.proofs.numbers.read_number.Goals.{then-is_empty-via-then-is_empty, then-is_empty-via-else-is_empty+then-text-gt10}

pub returns-then-is_empty : goal.returns-then-is_empty
returns-then-is_empty c = sym (number_of-outside c.args.text.now (elim c.then-is_empty.branch [
  | then-is_empty-via-then-is_empty w ↦ inl (search (rules, tests, w.if-is_empty.true))
  | then-is_empty-via-else-is_empty+then-text-gt10 w ↦ inr (omega (arith, w.if-text-gt10.true))
]))

pub returns-then-not-is_ascii_digit : goal.returns-then-not-is_ascii_digit
returns-then-not-is_ascii_digit c =
    let bad : is_ascii_digit (get_or c.args.text.now c.loop-c.c-index 0) ≡ false = search rules in
    sym (number_of-bad c.args.text.now c.loop-c.value c.loop-c.c-index c.loop-c.invariant.some c.loop-c.invariant.short c.loop-c.invariant.rest c.loop-c-test.true bad)

pub returns : goal.returns
returns c =
    let t = c.args.text.now in
    c.then_some.ensures ∙ then_some_fits c.loop-c.value c.from-2.result c.from-2.ensures ∙ sym (number_of-all t c.loop-c.value c.loop-c.c-index c.loop-c.invariant.some c.loop-c.invariant.short c.loop-c.invariant.rest c.loop-c-test.false)
