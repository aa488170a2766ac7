use Rattle.std.proofs.Common.{length, ap, arith}
use Rattle.cut_places.specs.FileChanges.{lines_of}
use Rattle.cut_places.specs.FilesState.{line_of_after}
use Rattle.cut_places.proofs.EachLemmas.{one_more}
use Rattle.cut_places.proofs.lines.change_all.Goals as goal

pub loop-line-preserved : goal.loop-line-preserved
loop-line-preserved c =
    one_more (line_of_after c.args.pages (lines_of c.args.change.now)) c.args.lines.now.items c.loop-line.line-items c.loop-line.line-index c.line-item.result c.change_within.new.self
    (omega (arith, c.loop-line-test.true, ap length c.deref_mut-line-items.ensures.value)) c.loop-line.invariant c.line-item.is c.in_ok-change_within.ensures
