use Rattle.image_file.proofs.ReadingLemmas.{Reading}
use Rattle.image_file.proofs.reading.read_lines.Given as goal

abbrev pub invariant-loop : goal.invariant-loop
invariant-loop l = Reading l.count l.counter l.bytes l.lines.items l.rest
