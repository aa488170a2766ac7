-- Ranges as one stretch of bytes: byte `offset` is counted through the ranges in their order.
use Rattle.std.specs.Prelude.{◌≡◌, ◌≤◌, ◌+◌, ◌-◌, ◌^◌, ◌&&◌, ℕ, Bool, true, not, List, [], ◌∷◌, Option, Some, None, All, nat_le, nat_lt, sum_by, if◌then◌else◌}
use Rattle.std.specs.List.{list_any}
use Rattle.std.specs.Option.{option_map}
use Rattle.nvm_base.specs.declared.units.Span.{Span}
use Rattle.nvm_base.specs.Units.{overlap}

-- the bytes of all ranges
abbrev pub total_of : List Span → ℕ
total_of ranges = sum_by (λ (r : Span). r.len) ranges

-- the range has a byte
abbrev pub HasBytes : Span → Type 0
HasBytes range = 1 ≤ range.len

-- the range ends where addresses end, or before
abbrev pub IsInReach : Span → Type 0
IsInReach range = range.start + range.len ≤ 2 ^ 40

-- whether a range has an address
abbrev pub has_address : Span → ℕ → Bool
has_address range address = nat_le range.start address && nat_lt address (range.start + range.len)

-- the address of a byte
abbrev pub address_of : List Span → ℕ → Option ℕ
address_of [] offset = None
address_of (r ∷ rs) offset = if nat_lt offset r.len then Some (r.start + offset) else address_of rs (offset - r.len)

-- which byte is at an address
abbrev pub offset_of : List Span → ℕ → Option ℕ
offset_of [] address = None
offset_of (r ∷ rs) address = if has_address r address then Some (address - r.start) else option_map (λ offset. r.len + offset) (offset_of rs address)

-- which byte a span of addresses begins with, where one range has all of it
abbrev pub offset_of_span : List Span → Span → Option ℕ
offset_of_span [] span = None
offset_of_span (r ∷ rs) span =
    if nat_le r.start span.start && nat_le (span.start + span.len) (r.start + r.len)
    then Some (span.start - r.start)
    else option_map (λ offset. r.len + offset) (offset_of_span rs span)

-- no two ranges share a byte
abbrev pub is_disjoint : List Span → Bool
is_disjoint [] = true
is_disjoint (r ∷ rs) = not (list_any (overlap r) rs) && is_disjoint rs

-- each range has a byte, and no two share one
pub record IsRangeSet (ranges : List Span) : Type 0 where
  pub some : All HasBytes ranges
  pub ends : All IsInReach ranges
  pub total : total_of ranges ≤ 2 ^ 40
  pub disjoint : is_disjoint ranges ≡ true
