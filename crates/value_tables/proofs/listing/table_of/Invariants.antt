use Rattle.value_tables.proofs.GoLemmas.{Goes}
use Rattle.value_tables.proofs.listing.table_of.Given as goal

abbrev pub invariant-loop-i : goal.invariant-loop-i
invariant-loop-i l = Goes l.program l.done l.reads l.geometry l.fn.sight l.i l.sight l.table
