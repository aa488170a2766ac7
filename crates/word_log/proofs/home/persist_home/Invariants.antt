use Rattle.std.proofs.Common.{ℕ, IsTrue, take}
use Rattle.line_device.specs.Medium.{WritesBack, last_image}
use Rattle.line_device.specs.Panel.{Runs}
use Rattle.line_device.specs.Panel.Outcome.{went}
use Rattle.word_log.specs.Changes.{lists}
use Rattle.line_words.specs.Words.{IsOnly}
use Rattle.word_log.proofs.home.persist_home.Given as goal

abbrev pub invariant-loop-change : goal.invariant-loop-change
invariant-loop-change g l =
    let old = g.L.Lines.state l.initial.dev in
    let new = g.L.Lines.state l.dev in
    let i = l.change-index in
    record {
      lines : WritesBack old.medium new.medium;
      durable : (p : ℕ) → IsTrue (lists (take i l.changes) p) → IsOnly (last_image old.medium p) (new.medium.history p);
      runs : Runs i i went old.panel new.panel;
    }
