-- One more line of a file is told.
use Rattle.cut_places.specs.AskedReads.Reads.{file_reads_asked}
use Rattle.witnesses.specs.Texts.{file_line_text, same_file_line}
use Rattle.witnesses.proofs.TextLemmas.{told_next}
use Rattle.witnesses.proofs.text.print_files.Goals as goal

pub loop-i-preserved : goal.loop-i-preserved
loop-i-preserved c =
    told_next same_file_line (file_line_text (file_reads_asked c.args.reads.now)) c.args.lines.now c.loop-i.i c.index-lines-i.result c.loop-i.out.items c.print_new_file_line.new.out.items _
    c.loop-i-test.true c.index-lines-i.is c.in_ok-print_new_file_line.ensures c.loop-i.invariant
