use Rattle.std.proofs.Common.{ℕ, ◌+◌, ◌*◌, ◌<◌, ◌≤◌, take, drop}
use Rattle.line_device.specs.Panel.{Runs}
use Rattle.line_device.specs.Panel.Outcome.{went}
use Rattle.line_words.specs.Words.{WritesBackBeside}
use Rattle.nvm_model.specs.Cell.{CellStands}
use Rattle.file_pages.specs.Fresh.{durable_cell}
use Rattle.file_pages.proofs.durable.renew_lines.Given as goal

abbrev pub invariant-loop-k : goal.invariant-loop-k
invariant-loop-k g l =
    let old = g.L.Lines.state l.initial.dev in
    let new = g.L.Lines.state l.dev in
    record {
      stands : (j : ℕ) → j < l.k → CellStands new.medium (l.first + j) (durable_cell (take 64 (drop (64 * j) l.bytes)));
      outside : WritesBackBeside (λ n. (l.first ≤ n) × (n < l.first + l.k)) old.medium new.medium;
      runs : Runs (3 * l.k) l.k went old.panel new.panel;
    }
