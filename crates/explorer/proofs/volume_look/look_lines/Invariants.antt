use Rattle.std.proofs.Common.{◌≡◌, ◌++◌, drop}
use Rattle.cut_places.specs.MachineModel.Machine.{Machine}
use Rattle.machine_host.specs.Settling.{GoesOn}
use Rattle.machine_host.specs.Stands.{Stands}
use Rattle.cut_places.specs.Outcomes.Pages.{all_lines_read}
use Rattle.cut_places.specs.AskedReads.Reads.{pages_asked}
use Rattle.cut_places.specs.SightsSeen.Seeing.{seen}
use Rattle.explorer.specs.Starting.{Begins}
use Rattle.explorer.specs.Stopping.{NoneFell}
use Rattle.cut_places.specs.SightsSeen.Units.{AreLines, line_numbers}
use Rattle.explorer.proofs.volume_look.look_lines.Given as goal

abbrev pub invariant-loop-read : goal.invariant-loop-read
invariant-loop-read g l = record {
  known : GoesOn l.host (g.D.Lines.state l.device);
  geometry : l.host.geometry ≡ l.fn.host.geometry;
  counts : NoneFell (g.D.Lines.state l.fn.device).panel (g.D.Lines.state l.device).panel;
  numbers : line_numbers l.lines.items ++ all_lines_read (pages_asked (drop l.read-index l.reads)) ≡ all_lines_read (pages_asked l.reads);
  sees : (h : Machine) → Stands l.fn.host (g.D.Lines.state l.fn.device) h → Begins h → AreLines (seen h.volume) l.lines.items × Stands l.host (g.D.Lines.state l.device) h;
}
