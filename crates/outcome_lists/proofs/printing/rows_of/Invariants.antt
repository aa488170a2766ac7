use Rattle.std.proofs.Common.{◌≡◌, take}
use Rattle.outcome_lists.specs.Walks.{rows_of}
use Rattle.outcome_lists.proofs.printing.rows_of.Given as goal

abbrev pub invariant-loop-place : goal.invariant-loop-place
invariant-loop-place l = l.rows.items ≡ rows_of (take l.place-index l.places)
