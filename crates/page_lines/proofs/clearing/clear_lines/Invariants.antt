use Rattle.std.proofs.Common.{◌≡◌, ◌+◌, ℕ, false}
use Rattle.line_device.specs.Panel.{Runs}
use Rattle.line_device.specs.Panel.Outcome.{went}
use Rattle.page_lines.specs.Placed.{there_among}
use Rattle.page_lines.specs.Turns.{WritesBackOthers}
use Rattle.page_lines.proofs.LoopLemmas.{IsReached}
use Rattle.page_lines.proofs.ClearLemmas.{AreZeros}
use Rattle.page_lines.specs.Stretches.{IsStretchOf}
use Rattle.page_lines.proofs.clearing.clear_lines.Given as goal

abbrev pub invariant-loop-k : goal.invariant-loop-k
invariant-loop-k g l =
    let old = g.L.Lines.state l.initial.dev in
    let new = g.L.Lines.state l.dev in
    let place = g.P.Places.place l.places in
    record {
      along : IsStretchOf place l.stretch;
      zeros : AreZeros place l.first (l.first + l.k) new.medium;
      good : (line : ℕ) → old.medium.is_bad line ≡ false → new.medium.is_bad line ≡ false;
      others : WritesBackOthers (IsReached place l.first (l.first + l.k)) old.medium new.medium;
      runs : Runs (there_among place l.first l.k) 0 went old.panel new.panel;
    }
