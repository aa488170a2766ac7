-- One more line is told.
use Rattle.cut_places.specs.AskedReads.Reads.{pages_asked}
use Rattle.witnesses.specs.Texts.{line_text, same_line}
use Rattle.witnesses.proofs.TextLemmas.{told_next}
use Rattle.witnesses.proofs.text.print_lines.Goals as goal

pub loop-i-preserved : goal.loop-i-preserved
loop-i-preserved c =
    told_next same_line (line_text (pages_asked c.args.reads.now)) c.args.lines.now c.loop-i.i c.index-lines-i.result c.loop-i.out.items c.print_new_line.new.out.items _
    c.loop-i-test.true c.index-lines-i.is c.in_ok-print_new_line.ensures c.loop-i.invariant
