-- Which ranges make no set.
use Rattle.std.specs.Prelude.{◌≡◌, ◌==◌, ◌+◌, ℕ, true, false, List, Option, Some, None, position, take}
use Rattle.nvm_base.specs.declared.units.Span.{Span}
use Rattle.range_sets.specs.declared.set.RangeFault.{RangeFault}
use Rattle.range_sets.specs.declared.set.RangeFault.TheVariants.{Empty, Overlap, Memory}
use Rattle.range_sets.specs.Ranges.{is_disjoint}

-- the first range with no byte
abbrev pub first_empty : List Span → Option ℕ
first_empty ranges = position (λ (r : Span). r.len == 0) ranges

-- the range at an index is the first that shares a byte with an earlier one
pub record IsFirstOverlap (ranges : List Span) (index : ℕ) : Type 0 where
  pub before : is_disjoint (take index ranges) ≡ true
  pub with_it : is_disjoint (take (index + 1) ranges) ≡ false

-- an empty range comes before any overlap; memory may always be short
abbrev pub IsRangeCause : List Span → RangeFault → Type 0
IsRangeCause ranges (Empty index) = first_empty ranges ≡ Some index
IsRangeCause ranges (Overlap index) = (first_empty ranges ≡ None) × IsFirstOverlap ranges index
IsRangeCause ranges Memory = Unit {0}
