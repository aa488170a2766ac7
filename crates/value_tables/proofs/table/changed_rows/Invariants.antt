use Rattle.std.proofs.Common.{◌≡◌, ◌++◌, drop}
use Rattle.value_tables.specs.Sides.{texts}
use Rattle.value_tables.specs.Tables.{changed}
use Rattle.value_tables.proofs.table.changed_rows.Given as goal

abbrev pub invariant-loop-i : goal.invariant-loop-i
invariant-loop-i l = l.text.items ++ changed (texts (drop l.i l.last)) (texts (drop l.i l.rows)) ≡ changed (texts l.last) (texts l.rows)
