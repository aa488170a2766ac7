-- What a mount asks for, and what its answers say.
use Rattle.std.specs.Prelude.{◌≡◌, ◌⊎◌, ◌+◌, ◌*◌, ◌/◌, ◌≤◌, ◌<◌, ℕ, min, Option, None, Result}
use Rattle.line_device.specs.Medium.{Medium, last_image}
use Rattle.line_device.specs.Panel.{Outcome}
use Rattle.line_words.specs.declared.interruption.Interruption.TheVariants as stop
use Rattle.line_words.specs.Told as all
use Rattle.line_words.specs.Told.{Told}
use Rattle.line_words.specs.Told.Told.{Refuses, Stops, Starves}
use Rattle.line_words.specs.Words.{IsOnly}
use Rattle.word_tables.specs.declared.geometry.Geometry.{Geometry}
use Rattle.word_tables.specs.Bounds.{IsValid}
use Rattle.word_tables.specs.Layout.{total_lines}
use Rattle.block_device.specs.Area.{block_area}
use Rattle.block_device.specs.Images.{AreReadable}
use Rattle.block_device.specs.Reading.{states_read}
use Rattle.block_device.specs.Object.{AreDurable, HasStrongMetadata, HasGoodMetadata}
use Rattle.pm_volume.specs.Area.{volume_area}
use Rattle.file_journal.specs.Area.{file_area}
use Rattle.recovery.specs.declared.fault.MountFault.{MountFault}
use Rattle.recovery.specs.declared.fault.MountFault.TheVariants.{Meta, Layout, Device, PowerLost, Memory}
use Rattle.word_log.specs.Area.{IsOf}
use Rattle.word_log.specs.Mount.{Finding}
use Rattle.word_log.specs.Mount.Finding.{bad_line, wrong_word}
use Rattle.recovery.specs.Findings.{geometry_told, early_finding, first_finding}

-- what a fault tells
abbrev pub device_says : MountFault → Told Finding
device_says (Meta line) = Refuses (bad_line line.0)
device_says (Layout place) = Refuses (wrong_word place)
device_says Device = Stops stop.Failed
device_says PowerLost = Stops stop.PowerLost
device_says Memory = Starves

-- an answer tells this finding and no other, and is Ok only where there is none
abbrev pub Finds : {T : Type 0} → Option Finding → Result T MountFault → Type 0
Finds found result = all.Finds device_says found result

-- how a mount ended, as far as the device goes
abbrev pub mount_outcome : {T : Type 0} → Result T MountFault → Outcome
mount_outcome result = all.outcome_by device_says result

-- where nothing is found, what the block map names is durable
abbrev pub HasDurableBlocks : Medium → Type 0
HasDurableBlocks m = first_finding m ≡ None → AreDurable (geometry_told m) m (states_read (geometry_told m) (last_image m))

-- a word of a log, or of the table that it keeps
abbrev pub IsOfLogs : Geometry → ℕ → Type 0
IsOfLogs geo p = IsOf (block_area geo) p ⊎ IsOf (volume_area geo) p ⊎ IsOf (file_area geo) p

-- the device has these sizes, and no line of metadata is bad or weak
pub record IsInOrder (geo : Geometry) (m : Medium) : Type 0 where
  pub valid : IsValid geo
  pub count : m.count ≡ total_lines geo
  pub good : HasGoodMetadata geo m
  pub strong : HasStrongMetadata geo m

-- the blocks that the first line tells, as far as there may be so many
abbrev pub blocks_told : Medium → ℕ
blocks_told m = min (geometry_told m).blocks 4096

-- the pages of the volume, likewise
abbrev pub vpages_told : Medium → ℕ
vpages_told m = min (geometry_told m).vpages 256

-- counted calls of a mount, at most, and persists
abbrev pub mount_calls_told : Medium → ℕ
mount_calls_told m = blocks_told m / 4 + 7952 + 2 * ((vpages_told m + 7) / 8)

abbrev pub mount_persists_told : Medium → ℕ
mount_persists_told m = blocks_told m / 8 + 2864 + (vpages_told m + 7) / 8

-- A mount may begin whatever a cut leaves: the first line is durable, and the blocks can be read, where nothing is found
-- before them.
pub record IsMountable (m : Medium) : Type 0 where
  pub some : 1 ≤ m.count
  pub first : (p : ℕ) → p < 8 → IsOnly (last_image m p) (m.history p)
  pub readable : early_finding m ≡ None → AreReadable (geometry_told m) m

-- another mount may begin, and it finds the same before the log
pub record GoesOn (old new : Medium) : Type 0 where
  pub mountable : IsMountable new
  pub sizes : geometry_told new ≡ geometry_told old
  pub same : early_finding new ≡ early_finding old
