-- The blocks' areas on the whole device.
use Rattle.std.proofs.Common.{◌≡◌, ◌+◌, ◌*◌, ◌/◌, ◌<◌, ◌≤◌, ℕ, inr, refl, subst, arith}
use Rattle.line_device.specs.Medium.{Medium, IsHealthy}
use Rattle.word_tables.specs.declared.geometry.Geometry.{Geometry}
use Rattle.word_tables.specs.Bounds.{IsValid}
use Rattle.word_tables.specs.Layout.{first_line, size, meta_lines, total_lines, block_line}
use Rattle.word_tables.specs.Words.{place, of_block}
use Rattle.word_log.specs.Area.{IsOf, IsShaped, IsWhole}
use Rattle.block_device.specs.Area.{block_area}
use Rattle.block_device.proofs.PlaceLemmas.{area_in_metadata, block_is_home}

pub meta_within : (geo : Geometry) → meta_lines geo ≤ total_lines geo
unfolding first_line total_lines
meta_within geo = omega arith

pub unit_within : (geo : Geometry) (unit : ℕ) → unit < geo.blocks + 64 → block_line geo unit + 8 ≤ total_lines geo
unfolding first_line total_lines
unit_within geo unit below = omega arith

pub area_shaped : (geo : Geometry) → IsValid geo → IsShaped (block_area geo)
unfolding first_line size
area_shaped geo valid = record {
  len = refl;
  whole = refl;
  apart = λ p log home. omega (arith, log, home);
}

-- the line of a block's word
pub word_line : (geo : Geometry) (m : Medium) (b : ℕ) → IsValid geo → m.count ≡ total_lines geo → IsWhole (block_area geo) m → b < geo.blocks → IsHealthy m (place geo (of_block b) / 8)
word_line geo m b valid count whole below =
    let of : IsOf (block_area geo) (place geo (of_block b)) = inr (block_is_home geo valid b below) in
    let meta = area_in_metadata geo valid (place geo (of_block b)) of in
    (omega (arith, meta_within geo), whole (place geo (of_block b)) of)

-- line k of the map
pub map_line : (geo : Geometry) (m : Medium) (first k : ℕ) → IsValid geo → m.count ≡ total_lines geo → IsWhole (block_area geo) m → first ≡ place geo (of_block 0) → k < geo.blocks / 8 → IsHealthy m (first / 8 + k)
map_line geo m first k valid count whole at below =
    let same : place geo (of_block (8 * k)) / 8 ≡ first / 8 + k = omega arith in
    subst (IsHealthy m) same (word_line geo m (8 * k) valid count whole (omega arith))
