-- The logs of a device, and the words of the tables that they keep.
use Rattle.std.specs.Prelude.{◌≡◌, ◌≤◌, ℕ, true, IsTrue, List, length, map, Option, None}
use Rattle.line_device.specs.Medium.{Medium, WritesBack, last_image}
use Rattle.line_words.specs.Words.{WritesBackOutside}
use Rattle.word_tables.specs.declared.geometry.Geometry.{Geometry}
use Rattle.word_log.specs.Area.{AreHomeWords, gate_place}
use Rattle.word_log.specs.Replay.{replayed}
use Rattle.word_log.specs.Rest.{EachImage, IsReached}
use Rattle.nvm_model.specs.Blocks.{first_there}
use Rattle.nvm_model.specs.Events.{restart_events, weak_file_lines}
use Rattle.nvm_model.specs.Storage.{File}
use Rattle.block_map.specs.States.{word_of}
use Rattle.block_device.specs.Area.{block_area}
use Rattle.block_device.specs.Mounting.{wrong_map_word}
use Rattle.pm_volume.specs.Area.{volume_area}
use Rattle.pm_volume.specs.Presence.{presence_word, wrong_page_word}
use Rattle.file_journal.specs.Area.{file_area}
use Rattle.file_journal.specs.Object.{JournalServes, JournalState}
use Rattle.file_journal.specs.Reading as files
use Rattle.file_journal.specs.Standing.{FilesStand}
use Rattle.file_journal.specs.Tables as file_tables
use Rattle.recovery.specs.declared.Mounted.{Mounted}
use Rattle.recovery.specs.declared.replaying.Tables.{Tables}
use Rattle.recovery.specs.Mounting.{IsOfLogs}

-- logs at rest, with as many words as they keep
pub record AreLogs (geo : Geometry) (tables : Tables) : Type 0 where
  pub blocks : tables.block_log ≡ record { area = block_area geo; settled = true }
  pub map : length tables.map.items ≡ geo.blocks
  pub volume : tables.volume_log ≡ record { area = volume_area geo; settled = true }
  pub presence : length tables.presence.items ≡ geo.vpages
  pub files : tables.file_log ≡ record { area = file_area geo; settled = true }
  pub file_words : length tables.file_words.items ≡ 16896

-- these logs, and the words that they replay to
pub record AreTables (geo : Geometry) (word : ℕ → ℕ) (tables : Tables) : Type 0 where
  pub blocks : tables.block_log ≡ record { area = block_area geo; settled = true }
  pub map : AreHomeWords (block_area geo) (replayed (block_area geo) word) tables.map.items
  pub volume : tables.volume_log ≡ record { area = volume_area geo; settled = true }
  pub presence : AreHomeWords (volume_area geo) (replayed (volume_area geo) word) tables.presence.items
  pub files : tables.file_log ≡ record { area = file_area geo; settled = true }
  pub file_words : AreHomeWords (file_area geo) (replayed (file_area geo) word) tables.file_words.items

-- the device is the one whose journal has the tables of these words, where none of them is wrong
abbrev pub ServesFiles : Geometry → Medium → List ℕ → Type 0
ServesFiles geo m words =
    (s : JournalState) → s.geo ≡ geo → s.tables ≡ files.tables_of words → files.wrong_table geo words ≡ None → JournalServes s m

-- the place of the first wrong word of a block map, or else of presence words, or else of inodes and page tables
abbrev pub wrong_words : Geometry → List ℕ → List ℕ → List ℕ → Option ℕ
wrong_words geo map presence file_words =
    first_there (wrong_map_word geo map) (first_there (wrong_page_word geo presence) (files.wrong_table geo file_words))

-- Where replays of the logs end: each log and its words are as they were, or replay to the same, nothing is stored where all gates
-- are closed, and other words are only written back.
pub record LeavesLogs (geo : Geometry) (old new : Medium) : Type 0 where
  pub blocks : EachImage (block_area geo) new (IsReached (block_area geo) old)
  pub volume : EachImage (volume_area geo) new (IsReached (volume_area geo) old)
  pub files : EachImage (file_area geo) new (IsReached (file_area geo) old)
  pub closed : last_image old (gate_place (block_area geo)) ≡ 0 → last_image old (gate_place (volume_area geo)) ≡ 0
      → last_image old (gate_place (file_area geo)) ≡ 0 → WritesBack old new
  pub outside : WritesBackOutside (IsOfLogs geo) old new

-- What is made of tables on a device: blocks and volume as their words say, and files with their events.
pub record AreOf (geo : Geometry) (m : Medium) (tables : Tables) (mounted : Mounted) : Type 0 where
  pub sizes : mounted.geo ≡ geo
  pub blocks : (mounted.blocks.geo ≡ geo) × (map word_of mounted.blocks.map ≡ tables.map.items)
  pub volume : (mounted.volume.geo ≡ geo) × (map presence_word mounted.volume.present ≡ tables.presence.items)
  pub journal : (mounted.files.journal.geo ≡ geo) × (mounted.files.journal.tables ≡ files.tables_of tables.file_words.items)
  pub right : file_tables.AreTables mounted.geo.fpages mounted.files.journal.tables
  pub held : file_tables.known_units mounted.files.journal.tables.pages mounted.files.journal.free ≡ mounted.geo.fpages
  pub settled : IsTrue mounted.blocks.settled × IsTrue mounted.volume.settled × IsTrue mounted.files.journal.settled × IsTrue mounted.files.settled
  pub events : (all : List File) → FilesStand mounted.files.journal.geo m mounted.files.journal.tables all → mounted.events.items ≡ restart_events all
  pub room : (all : List File) → FilesStand mounted.files.journal.geo m mounted.files.journal.tables all → weak_file_lines all ≤ mounted.events.spare
