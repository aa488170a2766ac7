use Rattle.std.proofs.Common.{◌≡◌, ◌*◌, ◌++◌, drop}
use Rattle.line_device.specs.Medium.{WritesBack, last_image}
use Rattle.line_device.specs.Panel.{Runs}
use Rattle.line_device.specs.Panel.Outcome.{went}
use Rattle.block_device.specs.Reading.{bytes_read}
use Rattle.block_device.proofs.reading.load_unit.Given as goal

abbrev pub invariant-loop-k : goal.invariant-loop-k
invariant-loop-k g l =
    let old = g.L.Lines.state l.initial.dev in
    let new = g.L.Lines.state l.dev in
    record {
      bytes : l.out ≡ bytes_read (last_image old.medium) (64 * l.first) (64 * l.k) ++ drop (64 * l.k) l.initial.out;
      lines : WritesBack old.medium new.medium;
      runs : Runs l.k 0 went old.panel new.panel;
    }
