-- Taking the unit that a page is on.
use Rattle.std.specs.Prelude.{◌&&◌, ℕ, Bool, true, false, List, Option, Some, None, nat_lt, slice_index_or, slice_set}
use Rattle.free_pool.specs.Units.{free_count}

-- whether a page may be where it is: a hole always, another where there is such a page, its unit is free, and more than 16 are
abbrev pub may_claim : List Bool → Bool → Option ℕ → Bool
may_claim free there None = true
may_claim free there (Some unit) = there && (nat_lt 16 (free_count free) && slice_index_or free unit false)

-- the free units without that of a page
abbrev pub after_claim : List Bool → Option ℕ → List Bool
after_claim free None = free
after_claim free (Some unit) = slice_set free unit false
