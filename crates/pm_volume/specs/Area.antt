-- Which lines of a medium are the volume's.
use Rattle.std.specs.Prelude.{◌≡◌, ◌⊎◌, ◌+◌, ◌*◌, ◌/◌, ◌<◌, ℕ, List, [], ◌∷◌, None}
use Rattle.nvm_base.specs.declared.units.Span.{Span}
use Rattle.word_tables.specs.declared.geometry.Geometry.{Geometry}
use Rattle.word_tables.specs.Layout.{volume_log, presence, first_range, second_range, bytes_in, first_line, lines_in, HasLine, IsVolumeLine}
use Rattle.range_sets.specs.Ranges.{offset_of}
use Rattle.word_log.specs.declared.area.LogArea.{LogArea}

-- the log of the presence words, which takes 256 changes at once
abbrev pub volume_area : Geometry → LogArea
volume_area geo = record { log = lines_in geo volume_log; cap = 256; home = record { start = 8 * first_line geo presence; len = geo.vpages } }

-- a line of the log, of the presence words, or of a page
abbrev pub IsOfVolume : Geometry → ℕ → Type 0
IsOfVolume geo n = HasLine geo volume_log n ⊎ HasLine geo presence n ⊎ IsVolumeLine geo n

-- the two ranges of physical addresses
abbrev pub volume_ranges : Geometry → List Span
volume_ranges geo = bytes_in geo first_range ∷ bytes_in geo second_range ∷ []

-- a byte of the span of addresses is in no range
abbrev pub LeavesRanges : Geometry → ℕ → ℕ → Type 0
LeavesRanges geo address len = (k : ℕ) × (k < len) × (offset_of (volume_ranges geo) (address + k) ≡ None)

-- a word of a line of the volume, its log or its presence words
abbrev pub IsVolumePlace : Geometry → ℕ → Type 0
IsVolumePlace geo p = IsOfVolume geo (p / 8)
