use Rattle.std.proofs.Common.{◌≡◌, ◌++◌, [], drop, take}
use Rattle.cut_places.specs.AskedReads.Reads.{file_reads_asked}
use Rattle.witnesses.specs.Texts.{file_line_text, same_file_line, texts_once}
use Rattle.witnesses.proofs.text.print_files.Given as goal

abbrev pub invariant-loop-i : goal.invariant-loop-i
invariant-loop-i l =
    l.out.items ++ texts_once same_file_line (file_line_text (file_reads_asked l.reads)) (take l.i l.lines) (drop l.i l.lines)
    ≡ l.fn.out.items ++ texts_once same_file_line (file_line_text (file_reads_asked l.reads)) [] l.lines
