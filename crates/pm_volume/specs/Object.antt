-- What callers see of the volume of a device.
use Rattle.std.specs.Prelude.{◌≡◌, ◌<◌, ◌/◌, ℕ, Bool, true, false, not, IsTrue, List, length, Option, Some, None, slice_get, if◌then◌else◌}
use Rattle.nvm_base.specs.declared.units.Span.{Span}
use Rattle.line_device.specs.Medium.{Medium}
use Rattle.word_tables.specs.declared.geometry.Geometry.{Geometry}
use Rattle.word_tables.specs.Bounds.{IsValid}
use Rattle.word_tables.specs.Layout.{meta_lines, total_lines, volume_line}
use Rattle.word_log.specs.declared.area.LogArea.{LogArea}
use Rattle.word_log.specs.Rest.{IsAtRest}
use Rattle.nvm_model.specs.Lines.{AreStrong}
use Rattle.nvm_model.specs.Page.{Page, presence_of, PagesStand}
use Rattle.pm_volume.specs.Area.{volume_area, volume_ranges}
use Rattle.pm_volume.specs.Presence.{presence_words}

-- The sizes of the device, which pages are there, whether the log is settled, and whether nothing stopped the last call.
pub record VolumeState : Type 0 where
  pub geo : Geometry
  pub present : List Bool
  pub quiet : Bool
  pub settled : Bool

-- The device is the one whose volume this is: its log is at rest with the words of the pages that are there. Lines that became
-- bad are no bar.
pub record VolumeServes (s : VolumeState) (m : Medium) : Type 0 where
  pub valid : IsValid s.geo
  pub all : length s.present ≡ s.geo.vpages
  pub count : m.count ≡ total_lines s.geo
  pub strong : AreStrong m (meta_lines s.geo)
  pub rest : IsAtRest (volume_area s.geo) m (presence_words s.geo s.present)

-- Volume and device stand for these pages.
pub record VolumeHolds (s : VolumeState) (m : Medium) (pages : List Page) : Type 0 where
  pub there : presence_of pages ≡ s.present
  pub stand : PagesStand (volume_line s.geo) m pages

-- no line of metadata changes its mark
abbrev pub KeepsMarks : Geometry → Medium → Medium → Type 0
KeepsMarks geo old new = (n : ℕ) → n < meta_lines geo → new.is_bad n ≡ old.is_bad n

-- the page is there, or absent, as it is wanted
abbrev pub is_wanted : Bool → Option Bool → Bool
is_wanted wanted None = false
is_wanted true (Some is_there) = is_there
is_wanted false (Some is_there) = not is_there

-- at which line of the device a line of the volume lies, of the pages that are there, or of those that are not; None for others
abbrev pub volume_place : Geometry → List Bool → Bool → ℕ → Option ℕ
volume_place geo there wanted n = if is_wanted wanted (slice_get there (n / 64)) then Some (volume_line geo n) else None

-- lines of a volume with these pages there: of them, or of the absent ones
pub record PlacesState : Type 0 where
  pub geo : Geometry
  pub present : List Bool
  pub wanted : Bool

-- what is true of a volume at any time, with the area of its log and its ranges
pub record IsKept (s : VolumeState) (log : LogArea) (set : List Span) : Type 0 where
  pub valid : IsValid s.geo
  pub area : log ≡ volume_area s.geo
  pub ranges : set ≡ volume_ranges s.geo
  pub all : length s.present ≡ s.geo.vpages
  pub quiet : IsTrue s.settled → IsTrue s.quiet
