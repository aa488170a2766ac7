use Rattle.std.proofs.Common.{◌≡◌, take}
use Rattle.nvm_model.specs.Storage.{File}
use Rattle.cut_places.specs.MachineModel.Machine.{Machine}
use Rattle.machine_host.specs.Settling.{GoesOn}
use Rattle.machine_host.specs.Stands.{Stands}
use Rattle.cut_places.specs.SightsSeen.Seeing.{seen}
use Rattle.cut_places.specs.SeesFiles.{AreLines, line_numbers}
use Rattle.explorer.specs.Files.{IsListed}
use Rattle.explorer.specs.Starting.{Begins}
use Rattle.explorer.specs.Stopping.{NoneFell}
use Rattle.explorer.proofs.files_look.look_file.Given as goal

abbrev pub invariant-loop-n : goal.invariant-loop-n
invariant-loop-n g l = record {
  known : GoesOn l.host (g.D.Lines.state l.device);
  geometry : l.host.geometry ≡ l.fn.host.geometry;
  counts : NoneFell (g.D.Lines.state l.fn.device).panel (g.D.Lines.state l.device).panel;
  name : l.file.name ≡ l.entry.name;
  pages : l.file.pages ≡ l.entry.pages;
  numbers : line_numbers l.file.lines ≡ take l.n-index l.numbers;
  sees : (h : Machine) (file : File) → Stands l.fn.host (g.D.Lines.state l.fn.device) h → Begins h → IsListed l.entry file h.files
      → AreLines (seen file.pages) l.file.lines × Stands l.host (g.D.Lines.state l.device) h;
}
