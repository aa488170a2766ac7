use Rattle.std.proofs.Common.{◌≡◌, ◌++◌, drop}
use Rattle.value_tables.specs.Rows.{words_text}
use Rattle.value_tables.proofs.values.print_values.Given as goal

abbrev pub invariant-loop-value : goal.invariant-loop-value
invariant-loop-value l = l.out.items ++ words_text (drop l.value-index l.values) ≡ l.fn.out.items ++ words_text l.values
