use Rattle.outcome_lists.proofs.PlaceLemmas.{AreFound}
use Rattle.outcome_lists.proofs.places.places.Given as goal

abbrev pub invariant-loop-i : goal.invariant-loop-i
invariant-loop-i l = AreFound l.course.program.now l.course.done.now l.course.geometry l.initial.seen l.i l.seen l.state l.found.items
