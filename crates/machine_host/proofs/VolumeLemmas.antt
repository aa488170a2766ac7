-- Where the volume's lines lie.
use Rattle.std.proofs.Common.{◌≡◌, ◌⊎◌, inl, inr, ℕ, ◌+◌, ◌-◌, ◌*◌, ◌<◌, ◌≤◌, Bool, nat_lt, if◌then◌else◌, sym, ap, subst, arith}
use Rattle.std.proofs.lemmas.Bool.{cases_lt, lt-ltb, le-ltb}
use Rattle.line_device.specs.Medium.{Medium}
use Rattle.word_tables.specs.declared.geometry.Geometry.{Geometry}
use Rattle.word_tables.specs.Layout.{first_range, second_range, first_line, size, volume_line, meta_lines, total_lines, HasLine}
use Rattle.word_tables.proofs.LayoutLemmas.{volume_line-within}

-- a line of the volume is in the first range, or it comes after the blocks
pub volume_line_lies : (geo : Geometry) (n : ℕ) → HasLine geo first_range (volume_line geo n) ⊎ (first_line geo second_range ≤ volume_line geo n)
unfolding volume_line
volume_line_lies geo n =
    let first = first_line geo first_range in
    let second = first_line geo second_range in
    let len = size geo first_range in
    let line : Bool → ℕ = λ b. if b then first + n else second + (n - len) in
    elim (cases_lt n len) as (λ _. ((first ≤ line (nat_lt n len)) × (line (nat_lt n len) < first + len)) ⊎ (second ≤ line (nat_lt n len))) [
      | inl below ↦ let is = ap line (lt-ltb n len below) in inl (omega (arith, is), omega (arith, is))
      | inr past ↦ let is = ap line (le-ltb n len past) in inr (omega (arith, is))
    ]

-- so it lies behind the metadata
pub volume_behind : (geo : Geometry) (n : ℕ) → meta_lines geo ≤ volume_line geo n
unfolding first_line size
volume_behind geo n = elim (volume_line_lies geo n) as (λ _. meta_lines geo ≤ volume_line geo n) [ inl first ↦ first.0 | inr after ↦ omega (arith, after) ]

-- a line of the volume is on the device
pub line_there : (geo : Geometry) (m : Medium) (n : ℕ) → m.count ≡ total_lines geo → n < 64 * geo.vpages → volume_line geo n < m.count
line_there geo m n lines lt = subst (λ c. volume_line geo n < c) (sym lines) (volume_line-within geo n lt)
