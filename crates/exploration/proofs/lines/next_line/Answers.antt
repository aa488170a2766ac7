use Rattle.std.proofs.Common.{◌≡◌, ◌+◌, ◌<◌, ◌==◌, true, false, sym, ◌∙◌, length, length-drop, arith}
use Rattle.std.proofs.lemmas.Bool.Decides.{nat_tests}
use Rattle.exploration.proofs.TextLemmas.{lines_of-all, lines_of-cut, lines_of-nil, take-rest}
use Rattle.exploration.proofs.lines.next_line.Goals as goal

pub returns-then-is_empty : goal.returns-then-is_empty
returns-then-is_empty c =
    let test : (length c.args.text.now == 0) ≡ true = sym c.is_empty.ensures ∙ c.if-is_empty.true in
    lines_of-nil c.args.text.now (grind (arith, nat_tests))

pub returns-in-Some : goal.returns-in-Some
returns-in-Some c =
    let text = c.args.text.now in
    let found = c.in-Some.ensures in
    rw (take-rest text (c.in-Some.end + 1)) (lines_of-cut text c.in-Some.end found.0 found.1, omega (arith, found.0.high, length-drop (c.in-Some.end + 1) text))

pub returns-in-None : goal.returns-in-None
returns-in-None c =
    let test : (length c.args.text.now == 0) ≡ false = sym c.is_empty.ensures ∙ c.if-is_empty.false in
    let some : 0 < length c.args.text.now = grind (arith, nat_tests) in
    lines_of-all c.args.text.now c.split_at.result.0.now c.split_at.result.1.now some c.in-None.ensures c.split_at.ensures.front c.split_at.ensures.back
