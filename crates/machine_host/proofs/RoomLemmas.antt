-- Room for the events of weak lines, and events that a host keeps.
use Rattle.std.proofs.Common.{◌≡◌, ◌≤◌, List, arith}
use Rattle.line_device.specs.Device.{Device}
use Rattle.line_device.specs.Medium.{Medium}
use Rattle.nvm_base.specs.Stock.{Stock}
use Rattle.nvm_model.specs.Events.{weak_file_lines}
use Rattle.nvm_model.specs.Storage.{Event, File}
use Rattle.file_journal.specs.Standing.{FilesStand}
use Rattle.file_journal.proofs.DeviceFileLemmas.{device_files-stand}
use Rattle.machine_host.specs.declared.held.HeldFiles.{HeldFiles}
use Rattle.machine_model.specs.declared.mode.Mode.TheVariants.{On}
use Rattle.machine_model.specs.Machine.{Machine}
use Rattle.machine_host.specs.Stands.{HasRoom, HostServes, HostState, Stands}

-- files become others that have no more weak lines
abbrev pub Thins : (List File → List File) → Type 0
Thins to = (files : List File) → weak_file_lines (to files) ≤ weak_file_lines files

-- There is room still where the files became others that have no more weak lines.
pub room_then : (f g : HeldFiles) (old new : Medium) (to : List File → List File) → Thins to
    → ((files : List File) → FilesStand f.pages.journal.geo old f.pages.journal.tables files → FilesStand g.pages.journal.geo new g.pages.journal.tables (to files)) → f.events.spare ≤ g.events.spare
    → HasRoom f old → HasRoom g new
room_then f g old new to thins stands more room = record {
  files = to room.files;
  stand = stands room.files room.stand;
  enough = let thin = thins room.files in omega (arith, thin, more, room.enough);
}

-- so it is with the files as they were
pub room_still : (f g : HeldFiles) (old new : Medium) → ((files : List File) → FilesStand f.pages.journal.geo old f.pages.journal.tables files → FilesStand g.pages.journal.geo new g.pages.journal.tables files)
    → f.events.spare ≤ g.events.spare → HasRoom f old → HasRoom g new
room_still f g old new stands more room = room_then f g old new (λ files. files) (λ files. omega arith) stands more room

-- where it was taken for whichever files there are
pub room_of : (f : HeldFiles) (m : Medium) → ((files : List File) → FilesStand f.pages.journal.geo m f.pages.journal.tables files → weak_file_lines files ≤ f.events.spare) → HasRoom f m
room_of f m enough =
    let s = f.pages.journal in
    let stand = device_files-stand s.geo m s.tables in record { files = _; stand = stand; enough = enough _ stand }

-- a host with these events
abbrev pub telling : Stock Event → HostState → HostState
telling e host = record host { files = record host.files { events = e } }

-- It stands for a state that has them.
pub stands_telling : (host : HostState) (d : Device) (h : Machine) (e : Stock Event) (events : List Event) → e.items ≡ events → Stands host d h → Stands (telling e host) d (record h { events = events })
stands_telling host d h e events same stands = record {
  geometry = stands.geometry;
  unit = stands.unit;
  mode = stands.mode;
  blocks = stands.blocks;
  volume = stands.volume;
  files = stands.files;
  mappings = stands.mappings;
  events = λ _. same;
  device = record {
    unit = stands.device.unit;
    metadata = stands.device.metadata;
    blocks = stands.device.blocks;
    volume = stands.device.volume;
    files = stands.device.files;
    power = stands.device.power;
    cut_armed = stands.device.cut_armed;
    fail_armed = stands.device.fail_armed;
    whole = stands.device.whole;
    stopped = stands.device.stopped;
  };
}

-- And it may go on, where there is room.
pub serves_telling : (host : HostState) (d : Device) (e : Stock Event) → HostServes host d → (host.mode ≡ On → HasRoom (record host.files { events = e }) d.medium) → HostServes (telling e host) d
serves_telling host d e serves room = record {
  layout = serves.layout;
  readable = serves.readable;
  power = serves.power;
  mounted = λ on. let was = serves.mounted on in record {
    geometry = was.geometry;
    settled = was.settled;
    serves = was.serves;
    volume_geometry = was.volume_geometry;
    volume_settled = was.volume_settled;
    volume_serves = was.volume_serves;
    journal_geometry = was.journal_geometry;
    journal_settled = was.journal_settled;
    journal_serves = was.journal_serves;
    journal_right = was.journal_right;
    journal_held = was.journal_held;
    pages_settled = was.pages_settled;
    mapped = was.mapped;
    room = room on;
  };
  stopped = serves.stopped;
}
