-- The host of the fields that a call works on.
use Rattle.std.proofs.Common.{◌≡◌}
use Rattle.file_journal.specs.Object.{JournalState}
use Rattle.machine_host.specs.Stands.{HostState}

-- what is the same as another
abbrev pub left_of : {host now : HostState} → host ≡ now → HostState
left_of {host} {now} is = host

-- a host with another journal
abbrev pub with_journal : HostState → JournalState → HostState
with_journal k journal = record {
  geometry = k.geometry;
  unit = k.unit;
  mode = k.mode;
  blocks = k.blocks;
  volume = k.volume;
  files = record { pages = record { journal = journal; settled = k.files.pages.settled }; mappings = k.files.mappings; events = k.files.events };
}
