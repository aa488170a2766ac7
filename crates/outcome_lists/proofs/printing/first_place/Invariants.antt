use Rattle.std.proofs.Common.{◌≡◌}
use Rattle.outcome_lists.specs.Walks.{first_place}
use Rattle.outcome_lists.proofs.printing.first_place.Given as goal

abbrev pub invariant-loop-place : goal.invariant-loop-place
invariant-loop-place l = first_place l.place-iterator.a.rest.now l.place-iterator.b.rest.now ≡ first_place l.fn.places l.fn.sides
