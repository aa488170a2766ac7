use Rattle.std.proofs.Common.{sym, below_more, arith}
use Rattle.line_words.proofs.PositionLemmas.{first_among, none_among}
use Rattle.line_words.proofs.marks.first_bad.Goals as goal

pub returns-then-is_bad-clause-line : goal.returns-then-is_bad-clause-line
returns-then-is_bad-clause-line g c = sym (first_among (g.L.Lines.state c.args.dev.now).medium.is_bad c.args.first c.args.count c.loop-k.k c.loop-k-test.true c.loop-k.invariant (sym c.if-is_bad.ensures))

pub loop-k-preserved : goal.loop-k-preserved
loop-k-preserved g c = below_more _ _ c.loop-k.invariant (sym c.if-is_bad.ensures)

pub returns-clause-line : goal.returns-clause-line
returns-clause-line g c = sym (none_among (g.L.Lines.state c.args.dev.now).medium.is_bad c.args.first c.args.count (λ i below. c.loop-k.invariant i (omega arith)))
