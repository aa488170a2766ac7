use Rattle.cut_places.proofs.GoingLemmas.{Goes}
use Rattle.cut_places.proofs.finding.find.Given as goal

abbrev pub invariant-loop-i : goal.invariant-loop-i
invariant-loop-i l = Goes l.program l.done l.question l.geometry l.fn.sight l.i l.sight
