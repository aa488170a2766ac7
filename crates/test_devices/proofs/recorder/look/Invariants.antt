use Rattle.std.proofs.Common.{◌≡◌, ◌+◌, ◌<◌, ◌≤◌, ℕ, length}
use Rattle.std.specs.List.{slice_get}
use Rattle.std.specs.Option.{IfSome}
use Rattle.line_device.specs.Medium.{Shows}
use Rattle.test_devices.proofs.recorder.look.Given as goal

abbrev pub invariant-loop-n : goal.invariant-loop-n
invariant-loop-n g l = record {
  count : length l.lines.items ≡ l.n;
  room : l.n-end ≤ l.lines.spare + l.n;
  lines : (k : ℕ) → k < l.n → IfSome (slice_get l.lines.items k) (Shows (g.D.Lines.state l.device).medium k);
}
