use Rattle.std.proofs.Common.{◌≡◌, ℕ, IsTrue, take}
use Rattle.line_device.specs.Medium.{last_image}
use Rattle.line_device.specs.Panel.{Runs}
use Rattle.line_device.specs.Panel.Outcome.{went}
use Rattle.word_log.specs.Changes.{lists, changed}
use Rattle.line_words.specs.Words.{WritesBackOutside}
use Rattle.word_log.proofs.home.store_home.Given as goal

abbrev pub invariant-loop-change : goal.invariant-loop-change
invariant-loop-change g l =
    let old = g.L.Lines.state l.initial.dev in
    let new = g.L.Lines.state l.dev in
    let i = l.change-index in
    record {
      outside : WritesBackOutside (λ p. IsTrue (lists l.changes p)) old.medium new.medium;
      words : (p : ℕ) → last_image new.medium p ≡ changed (take i l.changes) (last_image old.medium) p;
      runs : Runs i 0 went old.panel new.panel;
    }
