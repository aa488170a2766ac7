use Rattle.std.proofs.Common.{length, ap, arith}
use Rattle.sights.specs.AskedReads.Reads.{file_reads_asked}
use Rattle.cut_places.specs.FileChanges.{lines_of}
use Rattle.cut_places.specs.FileLeaving.{line_left}
use Rattle.cut_places.proofs.EachLemmas.{one_more}
use Rattle.cut_places.proofs.line_leaving.leave_lines.Goals as goal

pub loop-line-preserved : goal.loop-line-preserved
loop-line-preserved c =
    one_more (line_left (file_reads_asked c.args.reads.now) c.args.name.now (lines_of c.args.change.now) c.args.pages) c.args.lines.now.items c.loop-line.line-items c.loop-line.line-index
    c.line-item.result c.leave_line.new.line
    (omega (arith, c.loop-line-test.true, ap length c.deref_mut-line-items.ensures.value)) c.loop-line.invariant c.line-item.is c.in_ok-leave_line.ensures
