use Rattle.std.proofs.Common.{◌+◌}
use Rattle.line_device.specs.Medium.{WritesBack}
use Rattle.line_device.specs.Panel.{Runs}
use Rattle.line_device.specs.Panel.Outcome.{went}
use Rattle.page_lines.specs.Placed.{there_among}
use Rattle.page_lines.specs.Shown.{before_line, placed_byte}
use Rattle.page_lines.proofs.BufferLemmas.{IsFilled}
use Rattle.page_lines.specs.Stretches.{IsStretchOf}
use Rattle.page_lines.proofs.loading.load_lines.Given as goal

-- the bytes of the lines below this one are there
abbrev pub invariant-loop-k : goal.invariant-loop-k
invariant-loop-k g l =
    let old = g.L.Lines.state l.initial.dev in
    let now = g.L.Lines.state l.dev in
    let place = g.P.Places.place l.places in
    record {
      along : IsStretchOf place l.stretch;
      bytes : IsFilled (placed_byte place old.medium) l.offset (before_line l.span (l.touched.start + l.k)) l.initial.out l.out;
      lines : WritesBack old.medium now.medium;
      runs : Runs (there_among place l.touched.start l.k) 0 went old.panel now.panel;
    }
