use Rattle.std.proofs.Common.{◌≡◌, [], map, take}
use Rattle.std.specs.List.{All}
use Rattle.nvm_model.specs.Files.{entry_of_file}
use Rattle.nvm_model.specs.Listing.{AreAlike, file_name}
use Rattle.cut_places.specs.MachineModel.Machine.{Machine}
use Rattle.machine_host.specs.Settling.{GoesOn}
use Rattle.machine_host.specs.Stands.{Stands}
use Rattle.cut_places.specs.SeesFiles.{SeesFile}
use Rattle.cut_places.specs.FilesState.{name_seen}
use Rattle.explorer.specs.Files.{HasFewPages}
use Rattle.explorer.specs.Starting.{Begins}
use Rattle.explorer.specs.Stopping.{NoneFell}
use Rattle.explorer.proofs.files_look.look_files.Given as goal

abbrev pub invariant-loop-entry : goal.invariant-loop-entry
invariant-loop-entry g l = record {
  known : GoesOn l.host (g.D.Lines.state l.device);
  geometry : l.host.geometry ≡ l.fn.host.geometry;
  counts : NoneFell (g.D.Lines.state l.fn.device).panel (g.D.Lines.state l.device).panel;
  small : All HasFewPages l.entry-items;
  numbers : l.files.numbers ≡ l.numbers.items;
  mappings : l.files.mappings ≡ record { mappings = []; next = 0 };
  sees : (h : Machine) → Stands l.fn.host (g.D.Lines.state l.fn.device) h → Begins h
      → (l.entry-items ≡ map entry_of_file h.files)
      × AreAlike name_seen file_name (SeesFile l.numbers.items) l.files.files (take l.entry-index h.files)
      × Stands l.host (g.D.Lines.state l.device) h;
}
