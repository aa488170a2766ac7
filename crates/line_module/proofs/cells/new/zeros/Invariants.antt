use Rattle.std.proofs.Common.{◌≡◌, ◌<◌, ℕ, length, replicate}
use Rattle.std.specs.Prelude.{Some, slice_get}
use Rattle.line_module.proofs.cells.new.zeros.Given as goal

abbrev pub invariant-loop-line : goal.invariant-loop-line
invariant-loop-line l = (length l.region ≡ l.lines) × ((n : ℕ) → n < l.line → slice_get l.region n ≡ Some (Some (replicate 64 0)))
