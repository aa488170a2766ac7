-- A pool beside a table whose entries are each on a unit, or on none.
use Rattle.std.specs.Prelude.{◌≡◌, ◌+◌, ℕ, Bool, List, Option, Some, is_some, count_by, slice_get, if◌then◌else◌}
use Rattle.free_pool.specs.Units.{IsTaken, free_count}

-- the entry is on that unit
abbrev pub IsOn : List (Option ℕ) → ℕ → ℕ → Type 0
IsOn entries entry unit = slice_get entries entry ≡ Some (Some unit)

-- no entry is on the unit
abbrev pub IsVacant : List (Option ℕ) → ℕ → Type 0
IsVacant entries unit = (entry : ℕ) → IsOn entries entry unit → ⊥

-- the units of entries are taken
abbrev pub AreTaken : List (Option ℕ) → List Bool → Type 0
AreTaken entries free = (entry unit : ℕ) → IsOn entries entry unit → IsTaken free unit

-- how many units an entry uses
abbrev pub used_by : Option ℕ → ℕ
used_by entry = if is_some entry then 1 else 0

-- how many all of them use
abbrev pub used_units : List (Option ℕ) → ℕ
used_units entries = count_by is_some entries

-- the units that are free, or an entry's; the others are held for entries to come
abbrev pub known_units : List (Option ℕ) → List Bool → ℕ
known_units entries free = free_count free + used_units entries
