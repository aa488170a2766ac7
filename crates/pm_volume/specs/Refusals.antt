-- When calls are refused, and why.
use Rattle.std.specs.Prelude.{◌+◌, ◌*◌, ◌==◌, ℕ, Bool, true, List, nat_lt, is_none, Option, Some, None, option_map, option_and_then, position, if◌then◌else◌}
use Rattle.std.specs.List.{range_with_len}
use Rattle.line_device.specs.Medium.{Medium}
use Rattle.line_words.specs.declared.interruption.Interruption.TheVariants as stop
use Rattle.line_words.specs.Told.{Told}
use Rattle.line_words.specs.Told.Told.{Refuses, Stops}
use Rattle.word_tables.specs.declared.geometry.Geometry.{Geometry}
use Rattle.word_tables.specs.Layout.{meta_lines}
use Rattle.range_sets.specs.Ranges.{offset_of_span}
use Rattle.nvm_model.specs.Blocks.{first_there}
use Rattle.nvm_model.specs.Page.{Page, first_bad_line, first_uncovered_line, touches_absent}
use Rattle.pm_volume.specs.declared.fault.VolumeFault.{VolumeFault}
use Rattle.pm_volume.specs.declared.fault.VolumeFault.TheVariants as fault
use Rattle.pm_volume.specs.Area.{volume_ranges}
use Rattle.pm_volume.specs.Object.{VolumeState}

-- why a call is refused; of a bad line its offset is told
pub data VolumeRefusal : Type 0 where
  Range : VolumeRefusal
  Length : VolumeRefusal
  Address : VolumeRefusal
  Meta : ℕ → VolumeRefusal
  Poison : ℕ → VolumeRefusal

-- what a fault tells
abbrev pub volume_says : VolumeFault → Told VolumeRefusal
volume_says fault.Range = Refuses Range
volume_says fault.Length = Refuses Length
volume_says fault.Address = Refuses Address
volume_says (fault.Meta line) = Refuses (Meta line.0)
volume_says (fault.Poison offset) = Refuses (Poison offset)
volume_says fault.Device = Stops stop.Failed
volume_says fault.PowerLost = Stops stop.PowerLost

-- one refusal where a condition holds
abbrev pub refused_if : Bool → VolumeRefusal → Option VolumeRefusal
refused_if holds why = if holds then Some why else None

-- so many of something of this size: they go past its end, or are none
abbrev pub extent_refusal : ℕ → ℕ → ℕ → Option VolumeRefusal
extent_refusal size start len = first_there (refused_if (nat_lt size (start + len)) Range) (refused_if (len == 0) Length)

-- the same of bytes of the volume
abbrev pub bytes_refusal : Geometry → ℕ → ℕ → Option VolumeRefusal
bytes_refusal geo offset len = extent_refusal (4096 * geo.vpages) offset len

-- the line can't be read
abbrev pub poisoned_at : Option ℕ → Option VolumeRefusal
poisoned_at line = option_map (λ n. Poison (64 * n)) line

-- the lowest bad line of metadata, where a call changes some
abbrev pub metadata_refusal_if : Bool → Geometry → Medium → Option VolumeRefusal
metadata_refusal_if changes geo m = if changes then option_map Meta (position m.is_bad (range_with_len 0 (meta_lines geo))) else None

abbrev pub load_refusal : VolumeState → List Page → ℕ → ℕ → Option VolumeRefusal
load_refusal s pages offset len = first_there (bytes_refusal s.geo offset len) (poisoned_at (first_bad_line pages offset len))

-- a store changes metadata where it touches an absent page
abbrev pub store_refusal : VolumeState → Medium → List Page → ℕ → ℕ → Option VolumeRefusal
store_refusal s m pages offset len =
    first_there (bytes_refusal s.geo offset len)
    (first_there (metadata_refusal_if (touches_absent offset len s.present) s.geo m) (poisoned_at (first_uncovered_line pages offset len)))

abbrev pub sync_refusal : VolumeState → List Page → ℕ → ℕ → Option VolumeRefusal
sync_refusal s pages offset len = first_there (bytes_refusal s.geo offset len) (poisoned_at (first_bad_line pages offset len))

-- where a span of physical addresses begins in the volume, None where some byte of it is in no range
abbrev pub physical_offset : Geometry → ℕ → ℕ → Option ℕ
physical_offset geo address len = offset_of_span (volume_ranges geo) (record { start = address; len = len })

-- a span of physical addresses is empty, or leaves the ranges
abbrev pub address_refusal : Geometry → ℕ → ℕ → Option VolumeRefusal
address_refusal geo address len = first_there (refused_if (len == 0) Length) (refused_if (is_none (physical_offset geo address len)) Address)

abbrev pub physical_refusal : VolumeState → List Page → ℕ → ℕ → Option VolumeRefusal
physical_refusal s pages address len =
    first_there (address_refusal s.geo address len)
    (option_and_then (λ offset. poisoned_at (first_bad_line pages offset len)) (physical_offset s.geo address len))

-- pages
abbrev pub discard_refusal : VolumeState → Medium → ℕ → ℕ → Option VolumeRefusal
discard_refusal s m page count = first_there (extent_refusal s.geo.vpages page count) (metadata_refusal_if true s.geo m)
