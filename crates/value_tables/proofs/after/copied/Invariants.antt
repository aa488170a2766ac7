use Rattle.std.proofs.Common.{◌≡◌, take}
use Rattle.value_tables.proofs.after.copied.Given as goal

abbrev pub invariant-loop-unit : goal.invariant-loop-unit
invariant-loop-unit g l = l.copies.items ≡ take l.unit-index l.units
