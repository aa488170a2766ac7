use Rattle.image_file.proofs.ExtractLemmas.{Extracting}
use Rattle.image_file.proofs.extracting.extract.Given as goal

abbrev pub invariant-loop-n : goal.invariant-loop-n
invariant-loop-n g l = Extracting (g.D.Lines.state l.fn.device) (g.D.Lines.state l.device) l.n l.lines.items
