use Rattle.std.proofs.Common.{◌≡◌, ◌++◌, [], drop, take}
use Rattle.cut_places.specs.AskedReads.Reads.{pages_asked}
use Rattle.witnesses.specs.Texts.{line_text, same_line, texts_once}
use Rattle.witnesses.proofs.text.print_lines.Given as goal

abbrev pub invariant-loop-i : goal.invariant-loop-i
invariant-loop-i l =
    l.out.items ++ texts_once same_line (line_text (pages_asked l.reads)) (take l.i l.lines) (drop l.i l.lines)
    ≡ l.fn.out.items ++ texts_once same_line (line_text (pages_asked l.reads)) [] l.lines
