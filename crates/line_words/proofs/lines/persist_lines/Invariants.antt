use Rattle.std.proofs.Common.{ℕ, ◌+◌, ◌/◌, ◌<◌, ◌≤◌}
use Rattle.line_device.specs.Medium.{WritesBack, last_image}
use Rattle.line_device.specs.Panel.{Runs}
use Rattle.line_device.specs.Panel.Outcome.{went}
use Rattle.line_words.specs.Words.{IsOnly}
use Rattle.line_words.proofs.lines.persist_lines.Given as goal

abbrev pub invariant-loop-k : goal.invariant-loop-k
invariant-loop-k g l =
    let old = g.L.Lines.state l.initial.dev in
    let new = g.L.Lines.state l.dev in
    record {
      lines : WritesBack old.medium new.medium;
      durable : (p : ℕ) → l.first ≤ p / 8 → p / 8 < l.first + l.k → IsOnly (last_image old.medium p) (new.medium.history p);
      runs : Runs l.k l.k went old.panel new.panel;
    }
