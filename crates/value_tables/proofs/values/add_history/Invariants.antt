use Rattle.std.proofs.Common.{◌≡◌, ◌==◌, ◌∷◌, drop}
use Rattle.line_histories.specs.Log.{history_in}
use Rattle.value_tables.specs.Values.{with_all}
use Rattle.value_tables.proofs.values.add_history.Given as goal

abbrev pub invariant-loop-stored : goal.invariant-loop-stored
invariant-loop-stored l =
    with_all (λ a b. a == b) l.found.items (history_in (drop l.stored-index l.log) l.w) ≡ with_all (λ a b. a == b) l.fn.found.items (l.durable ∷ history_in l.log l.w)
