-- Bytes in units of one size, and spans that touch them.
use Rattle.std.specs.Prelude.{◌≡◌, ℕ, ◌+◌, ◌-◌, ◌/◌, ◌<◌, ◌≤◌, Bool, ◌&&◌, nat_lt}
use Rattle.nvm_base.specs.declared.units.Span.{Span}

-- the span has that byte, or that unit
pub record Holds (span : Span) (place : ℕ) : Type 0 where
  pub from : span.start ≤ place
  pub below : place < span.start + span.len

-- the span has a byte of unit k, where units have that size
pub record Touches (unit : ℕ) (span : Span) (k : ℕ) : Type 0 where
  pub byte : ℕ
  pub held : Holds span byte
  pub within : byte / unit ≡ k

-- the units that the span touches: the first, and how many
abbrev pub units_of : ℕ → Span → Span
units_of unit span = record { start = span.start / unit; len = (span.start + span.len - 1) / unit + 1 - span.start / unit }

-- some byte is in both
pub record SharesByte (a b : Span) : Type 0 where
  pub byte : ℕ
  pub first : Holds a byte
  pub second : Holds b byte

-- each begins before the other ends
abbrev pub overlap : Span → Span → Bool
overlap a b = nat_lt a.start (b.start + b.len) && nat_lt b.start (a.start + a.len)
