-- A pool is the list that says of each unit whether it is free.
use Rattle.std.specs.Prelude.{◌≡◌, ℕ, Bool, true, false, List, Some, slice_get, count_by}

-- the pool has the unit, and it is free
abbrev pub IsFree : List Bool → ℕ → Type 0
IsFree pool unit = slice_get pool unit ≡ Some true

-- the pool has the unit, and it is in use
abbrev pub IsTaken : List Bool → ℕ → Type 0
IsTaken pool unit = slice_get pool unit ≡ Some false

-- how many units are free
abbrev pub free_count : List Bool → ℕ
free_count pool = count_by (λ is_free. is_free) pool
