-- Where the volume's log and presence words lie.
use Rattle.std.proofs.Common.{◌≡◌, inl, inr, ℕ, ◌/◌, ◌<◌, ◌≤◌, refl, arith}
use Rattle.line_device.specs.Medium.{Medium}
use Rattle.word_tables.specs.declared.geometry.Geometry.{Geometry}
use Rattle.word_tables.specs.Bounds.{IsValid}
use Rattle.word_tables.specs.Layout.{first_line, size, total_lines, meta_lines}
use Rattle.word_tables.specs.Words.{place, of_volume_page}
use Rattle.word_log.specs.Area.{IsOf, IsHome, IsShaped, IsWhole, IsStrong, Fits}
use Rattle.nvm_model.specs.Lines.{AreGood, AreStrong}
use Rattle.pm_volume.specs.Area.{volume_area}

pub meta_within : (geo : Geometry) → meta_lines geo ≤ total_lines geo
unfolding first_line total_lines
meta_within geo = omega arith

module _ (geo : Geometry) (valid : IsValid geo) where
  pub area_shaped : IsShaped (volume_area geo)
  unfolding first_line size
  area_shaped = record { len = refl; whole = refl; apart = λ p log home. omega (arith, log, home) }

  -- they fit on the device
  pub area_fits : (m : Medium) → m.count ≡ total_lines geo → Fits (volume_area geo) m
  unfolding first_line size total_lines
  area_fits m count = record { shape = area_shaped; log = omega arith; home = omega (arith, valid.most_vpages) }

  -- their words lie in the metadata
  pub area_in_metadata : (p : ℕ) → IsOf (volume_area geo) p → p / 8 < meta_lines geo
  unfolding first_line size
  area_in_metadata p of = elim of as (λ _. p / 8 < meta_lines geo) [ inl log ↦ omega arith | inr home ↦ omega arith ]

  pub area_whole : (m : Medium) → AreGood m (meta_lines geo) → IsWhole (volume_area geo) m
  area_whole m good p of = good (p / 8) (area_in_metadata p of)

  pub area_strong : (m : Medium) → AreStrong m (meta_lines geo) → IsStrong (volume_area geo) m
  area_strong m strong p of = strong (p / 8) (area_in_metadata p of)

  -- the word of a page is a home word
  pub page_is_home : (page : ℕ) → page < geo.vpages → IsHome (volume_area geo) (place geo (of_volume_page page))
  page_is_home page below = (omega arith, omega arith)
