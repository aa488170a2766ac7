use Rattle.std.proofs.Common.{◌+◌, ◌*◌}
use Rattle.line_device.specs.Panel.{Runs}
use Rattle.line_device.specs.Panel.Outcome.{went}
use Rattle.nvm_model.specs.Cell.{put_cell}
use Rattle.page_lines.specs.Placed.{there_among}
use Rattle.page_lines.proofs.LoopLemmas.{Reached}
use Rattle.page_lines.specs.Stretches.{IsStretchOf}
use Rattle.page_lines.proofs.putting.put_lines.Given as goal

abbrev pub invariant-loop-k : goal.invariant-loop-k
invariant-loop-k g l =
    let old = g.L.Lines.state l.initial.dev in
    let new = g.L.Lines.state l.dev in
    let place = g.P.Places.place l.places in
    record {
      along : IsStretchOf place l.stretch;
      reached : Reached place (put_cell l.offset l.bytes) l.touched.start (l.touched.start + l.k) old.medium new.medium;
      runs : Runs (2 * there_among place l.touched.start l.k) 0 went old.panel new.panel;
    }
