-- Spans, their bytes and their units.
use Rattle.std.proofs.Common.{ℕ, ◌+◌, ◌-◌, ◌*◌, ◌/◌, ◌<◌, ◌≤◌, ◌↔◌, inl, inr, arith}
use Rattle.std.proofs.lemmas.Bool.{cases_lt}
use Rattle.std.proofs.lemmas.Nat.{le-div}
use Rattle.std.proofs.Math.Nat.{div-mul-le_self, div-lt_iff_lt-mul, le-div_iff_mul-le, mul-div_left}
use Rattle.nvm_base.specs.declared.units.Span.{Span}
use Rattle.nvm_base.specs.Units.{Holds, Touches, SharesByte, units_of}

div-le-div : (a b unit : ℕ) → 0 < unit → a ≤ b → a / unit ≤ b / unit
div-le-div a b unit h le = le-div (a / unit) b unit h (omega (arith, div-mul-le_self a unit))

-- the unit of a byte of the span is among those touched
held : (unit : ℕ) (s : Span) (k : ℕ) → 0 < unit → Touches unit s k → Holds (units_of unit s) k
held unit s k h t =
    let low : s.start / unit ≤ t.byte / unit = div-le-div _ _ unit h t.held.from in
    let high : t.byte / unit ≤ (s.start + s.len - 1) / unit = div-le-div _ _ unit h (omega (arith, t.held.below)) in
    let same = t.within in
    record { from = omega arith; below = omega arith }

-- a unit among those touched has a byte of the span: the first one at the start, the others with their own first byte
touched : (unit : ℕ) (s : Span) (k : ℕ) → 0 < unit → 1 ≤ s.len → Holds (units_of unit s) k → Touches unit s k
touched unit s k h some t =
    let low = t.from in
    let high = t.below in
    elim (cases_lt (s.start / unit) k) [
      | inl above ↦
          let from : s.start < k * unit = (div-lt_iff_lt-mul h).0 above in
          let last : k ≤ (s.start + s.len - 1) / unit = omega arith in
          let below : k * unit ≤ s.start + s.len - 1 = (le-div_iff_mul-le h).0 last in
          record { byte = k * unit; held = record { from = omega arith; below = omega arith }; within = mul-div_left k h }
      | inr here ↦
          record { byte = s.start; held = record { from = omega arith; below = omega arith }; within = omega arith }
    ]

pub Holds-units_of : (unit : ℕ) (s : Span) → 0 < unit → 1 ≤ s.len → (k : ℕ) → Holds (units_of unit s) k ↔ Touches unit s k
Holds-units_of unit s h some k = (touched unit s k h some, held unit s k h)

-- two spans with a byte each share the later one of their first bytes, or nothing
pub SharesByte-after : (a b : Span) → 1 ≤ a.len → 1 ≤ b.len → a.start < b.start + b.len → b.start < a.start + a.len → SharesByte a b
SharesByte-after a b some_a some_b below_a below_b =
    elim (cases_lt a.start b.start) [
      | inl later ↦ record { byte = b.start; first = record { from = omega arith; below = omega arith }; second = record { from = omega arith; below = omega arith } }
      | inr later ↦ record { byte = a.start; first = record { from = omega arith; below = omega arith }; second = record { from = omega arith; below = omega arith } }
    ]

pub starts_below : (a b : Span) → SharesByte a b → (a.start < b.start + b.len) × (b.start < a.start + a.len)
starts_below a b s = let p = s.first in let q = s.second in (omega arith, omega arith)
