use Rattle.std.proofs.Common.{◌≡◌, ◌*◌}
use Rattle.line_device.specs.Medium.{WritesBack, last_image}
use Rattle.line_device.specs.Panel.{Runs}
use Rattle.line_device.specs.Panel.Outcome.{went}
use Rattle.word_log.specs.Area.{entry_place}
use Rattle.word_log.specs.Replay.{entries}
use Rattle.word_log.proofs.reading.read_entries.Given as goal

abbrev pub invariant-loop-k : goal.invariant-loop-k
invariant-loop-k g l =
    let old = g.L.Lines.state l.initial.dev in
    let new = g.L.Lines.state l.dev in
    record {
      entries : l.changes.items ≡ entries (last_image old.medium) (entry_place l.area 0) l.k;
      lines : WritesBack old.medium new.medium;
      runs : Runs (2 * l.k) 0 went old.panel new.panel;
    }
