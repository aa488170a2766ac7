-- What a check that ended well found.
use Rattle.std.specs.Prelude.{◌≡◌, ◌+◌, ◌*◌, ◌≤◌, ℕ, Bool, true, false, List, Some}
use Rattle.nvm_base.specs.declared.units.Span.{Span}
use Rattle.line_device.specs.Medium.{Medium}
use Rattle.word_tables.specs.declared.geometry.Geometry.{Geometry}
use Rattle.word_tables.specs.Layout.{meta_lines}
use Rattle.nvm_model.specs.Cell.{covers, touches}
use Rattle.nvm_model.specs.Lines.{AreGood}
use Rattle.nvm_model.specs.Page.{touches_absent}
use Rattle.pm_volume.specs.Object.{VolumeState, volume_place}

-- the span has bytes, and no line of it that is there is bad
pub record IsReadable (s : VolumeState) (m : Medium) (span : Span) : Type 0 where
  pub some : 1 ≤ span.len
  pub within : span.start + span.len ≤ 4096 * s.geo.vpages
  pub good : (n line : ℕ) → touches span.start span.len n ≡ true → volume_place s.geo s.present true n ≡ Some line → m.is_bad line ≡ false

-- the span covers each bad line of it that is there
abbrev pub IsCovered : VolumeState → Medium → Span → Type 0
IsCovered s m span =
    (n line : ℕ) → touches span.start span.len n ≡ true → volume_place s.geo s.present true n ≡ Some line → m.is_bad line ≡ true → covers span.start span.len n ≡ true

-- the span has bytes and covers its bad lines, and the metadata can change where it has to
pub record IsStorable (s : VolumeState) (m : Medium) (span : Span) : Type 0 where
  pub some : 1 ≤ span.len
  pub within : span.start + span.len ≤ 4096 * s.geo.vpages
  pub covered : IsCovered s m span
  pub good : touches_absent span.start span.len s.present ≡ true → AreGood m (meta_lines s.geo)

-- a line of a page that is absent
abbrev pub IsAbsentLine : Geometry → List Bool → ℕ → Type 0
IsAbsentLine geo there line = (n : ℕ) × (volume_place geo there false n ≡ Some line)
