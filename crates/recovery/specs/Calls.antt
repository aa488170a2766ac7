-- What a mount of a device leaves of it, and what it gives.
use Rattle.std.specs.Prelude.{◌≡◌, ◌≢◌, ◌≤◌, List, None, IsTrue}
use Rattle.line_device.specs.Medium.{Medium, WritesBack, last_image}
use Rattle.word_log.specs.Replay.{replayed}
use Rattle.word_log.specs.Rest.{IsAtRest}
use Rattle.nvm_model.specs.Events.{restart_events, weak_file_lines}
use Rattle.nvm_model.specs.Storage.{File}
use Rattle.block_device.specs.Area.{block_area}
use Rattle.block_device.specs.Images.{KeepsReads}
use Rattle.block_device.specs.Object.{BlocksServe, blocks_of}
use Rattle.block_device.specs.Reading.{blocks_read}
use Rattle.pm_volume.specs.Object.{VolumeServes}
use Rattle.pm_volume.specs.Presence.{presence_read}
use Rattle.file_journal.specs.Object.{JournalServes}
use Rattle.file_journal.specs.Reading.{tables_read}
use Rattle.file_journal.specs.Standing.{FilesStand}
use Rattle.file_journal.specs.Tables as files
use Rattle.file_journal.specs.Tables.{known_units}
use Rattle.recovery.specs.declared.Mounted.{Mounted}
use Rattle.recovery.specs.Findings.{geometry_told, early_finding, inspection_finding}
use Rattle.recovery.specs.Mounting.{HasDurableBlocks, IsInOrder}
use Rattle.recovery.specs.Tables.{LeavesLogs}

-- A mount leaves the device so, however it ends: its logs as replays leave them, the blocks that it stood for, and all as it was
-- where something is found before a log is replayed.
pub record LeavesDevice (old new : Medium) : Type 0 where
  pub logs : LeavesLogs (geometry_told old) old new
  pub open logs use *
  pub reads : early_finding old ≡ None → KeepsReads (geometry_told old) old new
  pub refused : inspection_finding old ≢ None → WritesBack old new

-- What is mounted is what the device stood for, and serves: the blocks where what their map names was durable.
pub record IsMounted (old new : Medium) (mounted : Mounted) : Type 0 where
  pub geo : mounted.geo ≡ geometry_told old
  pub blocks_geo : mounted.blocks.geo ≡ geometry_told old
  pub blocks : blocks_of mounted.blocks new ≡ blocks_read (geometry_told old) old.is_bad (last_image old)
  pub blocks_serve : HasDurableBlocks old → BlocksServe mounted.blocks new
  -- the blocks' log is at rest
  pub rest : IsAtRest (block_area (geometry_told old)) new (replayed (block_area (geometry_told old)) (last_image old))
  pub volume_geo : mounted.volume.geo ≡ geometry_told old
  pub present : mounted.volume.present ≡ presence_read (geometry_told old) (last_image old)
  pub volume_serves : VolumeServes mounted.volume new
  pub journal_geo : mounted.files.journal.geo ≡ geometry_told old
  pub tables : mounted.files.journal.tables ≡ tables_read (geometry_told old) (last_image old)
  pub right : files.AreTables mounted.geo.fpages mounted.files.journal.tables
  pub held : known_units mounted.files.journal.tables.pages mounted.files.journal.free ≡ mounted.geo.fpages
  pub journal_serves : JournalServes mounted.files.journal new
  pub settled : IsTrue mounted.blocks.settled × IsTrue mounted.volume.settled × IsTrue mounted.files.journal.settled × IsTrue mounted.files.settled
  -- an event of each bad line of a file, and room for one of each weak line
  pub events : (all : List File) → FilesStand mounted.files.journal.geo new mounted.files.journal.tables all → mounted.events.items ≡ restart_events all
  pub room : (all : List File) → FilesStand mounted.files.journal.geo new mounted.files.journal.tables all → weak_file_lines all ≤ mounted.events.spare
  pub order : IsInOrder mounted.geo new
