use Rattle.std.proofs.Common.{◌≡◌, ◌<◌, ℕ, true}
use Rattle.std.specs.Prelude.{slice_get}
use Rattle.line_module.specs.Chains.{is_clean}
use Rattle.line_module.proofs.cells.Cells.next_unclean.Given as goal

abbrev pub invariant-loop-next : goal.invariant-loop-next
invariant-loop-next l = (n : ℕ) → l.line < n → n < l.next → is_clean (slice_get l.self.states.items n) ≡ true
