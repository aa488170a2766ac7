use Rattle.std.proofs.Common.{◌≡◌, ◌<◌, ℕ, length}
use Rattle.std.specs.Prelude.{Some, slice_get}
use Rattle.line_module.specs.declared.state.State.TheVariants.{Clean}
use Rattle.line_module.proofs.cells.new.clean.Given as goal

abbrev pub invariant-loop : goal.invariant-loop
invariant-loop l = (length l.states.items ≡ l.counter) × ((n : ℕ) → n < l.counter → slice_get l.states.items n ≡ Some Clean)
