use Rattle.std.proofs.Common.{length, ap, arith}
use Rattle.cut_places.specs.FilesState.{line_within}
use Rattle.cut_places.proofs.EachLemmas.{one_more}
use Rattle.cut_places.proofs.lines.cut.Goals as goal

pub loop-line-preserved : goal.loop-line-preserved
loop-line-preserved c =
    one_more (line_within c.args.pages) c.args.lines.now.items c.loop-line.line-items c.loop-line.line-index c.line-item.result c.cut.new.self
    (omega (arith, c.loop-line-test.true, ap length c.deref_mut-line-items.ensures.value)) c.loop-line.invariant c.line-item.is c.cut.ensures
