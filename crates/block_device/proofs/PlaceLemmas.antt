-- Where the blocks' log, map and units lie.
use Rattle.std.proofs.Common.{◌≡◌, inl, inr, ℕ, ◌/◌, ◌<◌, ◌≤◌, List, length, refl, arith}
use Rattle.line_device.specs.Medium.{Medium}
use Rattle.word_tables.specs.declared.geometry.Geometry.{Geometry}
use Rattle.word_tables.specs.Bounds.{IsValid}
use Rattle.word_tables.specs.Layout.{blocks, first_line, size, total_lines, meta_lines, HasLine}
use Rattle.word_tables.specs.Words.{place, of_block}
use Rattle.word_log.specs.Area.{IsOf, IsHome, IsWhole, IsStrong, Fits}
use Rattle.word_log.specs.Rest.{IsImageOn}
use Rattle.block_map.specs.declared.state.BlockState.{BlockState}
use Rattle.block_map.specs.States.{IsMap}
use Rattle.block_device.specs.Area.{block_area, IsBlockPlace}
use Rattle.block_device.specs.Object.{HasStrongMetadata, HasGoodMetadata}
use Rattle.block_device.specs.Images.{IsBlockImage}
use Rattle.block_device.proofs.ReadLemmas.{IsNamed}

module _ (geo : Geometry) (valid : IsValid geo) where
  -- the log and the map fit on the device
  pub area_fits : (m : Medium) → m.count ≡ total_lines geo → Fits (block_area geo) m
  unfolding first_line size total_lines
  area_fits m count = record {
    shape = record { len = refl; whole = refl; apart = λ p in_log in_home. omega arith };
    log = omega arith;
    home = omega arith;
  }

  -- their words lie in the metadata
  pub area_in_metadata : (p : ℕ) → IsOf (block_area geo) p → p / 8 < meta_lines geo
  unfolding first_line size
  area_in_metadata p of = elim of as (λ _. p / 8 < meta_lines geo) [ inl log ↦ omega arith | inr home ↦ omega arith ]

  pub area_whole : (m : Medium) → HasGoodMetadata geo m → IsWhole (block_area geo) m
  area_whole m good p of = good (p / 8) (area_in_metadata p of)

  pub area_strong : (m : Medium) → HasStrongMetadata geo m → IsStrong (block_area geo) m
  area_strong m strong p of = strong (p / 8) (area_in_metadata p of)

  -- and they are words of the blocks
  pub area_is_block : (p : ℕ) → IsOf (block_area geo) p → IsBlockPlace geo p
  unfolding first_line size
  area_is_block p of =
      elim of as (λ _. IsBlockPlace geo p) [ inl log ↦ inl (omega arith, omega arith) | inr home ↦ inr (inl (omega arith, omega arith)) ]

  pub image_on_area : (m : Medium) (image : ℕ → ℕ) → IsWhole (block_area geo) m → IsBlockImage geo m image → IsImageOn (block_area geo) m image
  image_on_area m image whole is p of = is p (area_is_block p of) (whole p of)

  -- the word of a block is a home word
  pub block_is_home : (block : ℕ) → block < geo.blocks → IsHome (block_area geo) (place geo (of_block block))
  block_is_home block below = (omega arith, omega arith)

  -- the lines of a unit that a map names lie behind the metadata, on the device, and are the blocks'
  pub named_is_data : (states : List BlockState) (n : ℕ) → length states ≡ geo.blocks → IsMap states → IsNamed geo states n → HasLine geo blocks n
  unfolding first_line size
  named_is_data states n all is_map named =
      let below = is_map.within named.block named.unit named.at in
      let from = named.from in
      let to = named.to in
      (omega arith, omega arith)

  pub data_behind_metadata : (n : ℕ) → HasLine geo blocks n → meta_lines geo ≤ n
  unfolding first_line size
  data_behind_metadata n has = omega arith

  pub data_on_device : (n : ℕ) → HasLine geo blocks n → n < total_lines geo
  unfolding first_line size total_lines
  data_on_device n has = omega arith

  -- a unit's lines are no words of log and map
  pub named_apart : (states : List BlockState) (p : ℕ) → length states ≡ geo.blocks → IsMap states → IsNamed geo states (p / 8) → IsOf (block_area geo) p → ⊥
  named_apart states p all is_map named of =
      let data_ = data_behind_metadata (p / 8) (named_is_data states (p / 8) all is_map named) in
      let meta = area_in_metadata p of in
      omega arith
