use Rattle.std.proofs.Common.{◌≡◌, get_or, below_more, arith}
use Rattle.std.proofs.lemmas.Bool.{eqb-true}
use Rattle.std.proofs.lemmas.Nat.{le_or_l, le_or_r}
use Rattle.page_table.proofs.judging.are_holes.Goals as goal

pub loop-word-preserved : goal.loop-word-preserved
loop-word-preserved c =
    let here = get_or c.args.words.now c.loop-word.word-index 0 in
    below_more _ _ (λ n below. omega (arith, c.loop-word.invariant n below, le_or_l c.loop-word.all here)) (le_or_r c.loop-word.all here)

pub returns : goal.returns
returns c = λ is n below.
    let none : c.loop-word.all ≡ 0 = eqb-true c.loop-word.all 0 is in
    omega (arith, none, c.loop-word.invariant n (omega (arith, below, c.loop-word-test.false)))
