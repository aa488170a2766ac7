use Rattle.std.proofs.Common.{◌≡◌, ◌-◌, ◌<◌, ℕ, false, length}
use Rattle.line_module.specs.Memory.{has}
use Rattle.line_module.specs.Cells.{cells_medium}
use Rattle.line_module.proofs.RestartLemmas.{restarted_below}
use Rattle.line_module.proofs.cells.Cells.restart.Given as goal

abbrev pub invariant-loop-line : goal.invariant-loop-line
invariant-loop-line l = record {
  medium : cells_medium l.self ≡ restarted_below l.unit l.choice l.line (cells_medium l.fn.self);
  order : (n : ℕ) → n < l.line → has n l.self.order ≡ false;
}

abbrev pub decreases-loop-line : goal.decreases-loop-line
decreases-loop-line l = length l.fn.self.durable - l.line
