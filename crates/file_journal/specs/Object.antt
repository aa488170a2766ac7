-- What callers see of the journal of a device, and what is kept beside.
use Rattle.std.specs.Prelude.{◌≡◌, ◌+◌, ℕ, Bool, IsTrue, List, length}
use Rattle.line_device.specs.Medium.{Medium}
use Rattle.free_pool.specs.Units.{IsTaken}
use Rattle.word_tables.specs.declared.geometry.Geometry.{Geometry}
use Rattle.word_tables.specs.Bounds.{IsValid}
use Rattle.word_tables.specs.Layout.{meta_lines, total_lines}
use Rattle.word_log.specs.declared.area.LogArea.{LogArea}
use Rattle.word_log.specs.Held as held
use Rattle.nvm_model.specs.Lines.{AreStrong}
use Rattle.file_journal.specs.Area.{file_area}
use Rattle.file_journal.specs.Holds.{Holds}
use Rattle.file_journal.specs.Tables.{AreTables, AreTaken, IsVacant, Tables, known_units}

-- The sizes of the device, the tables, which units are free, whether the log is settled, and whether nothing stopped the last
-- call.
pub record JournalState : Type 0 where
  pub geo : Geometry
  pub tables : Tables
  pub free : List Bool
  pub quiet : Bool
  pub settled : Bool

-- the log is at rest with words that hold these tables
abbrev pub RestsWith : Geometry → Medium → Tables → Type 0
RestsWith geo m t = held.RestsWith (file_area geo) (Holds geo) m t

-- The device is the one whose journal this is. Lines that became bad are no bar.
pub record JournalServes (s : JournalState) (m : Medium) : Type 0 where
  pub count : m.count ≡ total_lines s.geo
  pub strong : AreStrong m (meta_lines s.geo)
  pub rest : RestsWith s.geo m s.tables

-- what is true of a journal at any time, with the area of its log and the number of its units
pub record IsKept (s : JournalState) (log : LogArea) (units : ℕ) : Type 0 where
  pub valid : IsValid s.geo
  pub area : log ≡ file_area s.geo
  pub size : units ≡ s.geo.fpages
  pub tables : AreTables s.geo.fpages s.tables
  pub all : length s.free ≡ s.geo.fpages
  pub taken : AreTaken s.tables.pages s.free
  pub quiet : IsTrue s.settled → IsTrue s.quiet

-- Units that were held for pages to come stay taken, but for as many as are named now no unit more is free or a page's.
pub record KeepsUnits (named : ℕ) (old new : JournalState) : Type 0 where
  pub held : (unit : ℕ) → IsTaken old.free unit → IsVacant old.tables.pages unit → IsTaken new.free unit
  pub known : known_units new.tables.pages new.free ≡ known_units old.tables.pages old.free + named
