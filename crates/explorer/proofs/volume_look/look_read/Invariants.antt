use Rattle.std.proofs.Common.{◌≡◌, ◌-◌, ◌*◌, ◌≤◌, ◌++◌}
use Rattle.std.specs.List.{range_with_len}
use Rattle.cut_places.specs.MachineModel.Machine.{Machine}
use Rattle.machine_host.specs.Settling.{GoesOn}
use Rattle.machine_host.specs.Stands.{Stands}
use Rattle.cut_places.specs.Outcomes.Pages.{lines_read}
use Rattle.cut_places.specs.AskedReads.Reads.{page_reply}
use Rattle.cut_places.specs.SightsSeen.Seeing.{seen}
use Rattle.explorer.specs.Starting.{Begins}
use Rattle.explorer.specs.Stopping.{NoneFell}
use Rattle.cut_places.specs.SightsSeen.Units.{AreLines, line_numbers}
use Rattle.explorer.proofs.volume_look.look_read.Given as goal

abbrev pub invariant-loop-n : goal.invariant-loop-n
invariant-loop-n g l = record {
  known : GoesOn l.host (g.D.Lines.state l.device);
  geometry : l.host.geometry ≡ l.fn.host.geometry;
  counts : NoneFell (g.D.Lines.state l.fn.device).panel (g.D.Lines.state l.device).panel;
  ordered : l.initial.n ≤ l.n-end;
  within : l.n-end ≤ 64 * l.fn.host.geometry.vpages;
  reads : range_with_len l.initial.n (l.n-end - l.initial.n) ≡ lines_read l.read.start l.read.len (page_reply l.read.reply);
  numbers : line_numbers l.lines.items ≡ line_numbers l.fn.lines.items ++ range_with_len l.initial.n (l.n - l.initial.n);
  sees : (h : Machine) → Stands l.fn.host (g.D.Lines.state l.fn.device) h → Begins h
      → (AreLines (seen h.volume) l.fn.lines.items → AreLines (seen h.volume) l.lines.items) × Stands l.host (g.D.Lines.state l.device) h;
}
