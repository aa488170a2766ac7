-- How many units are free, after one changes.
use Rattle.std.proofs.Common.{◌≡◌, ℕ, ◌+◌, ◌≤◌, Bool, true, false, cond, List, length, set, arith}
use Rattle.std.proofs.lemmas.List.Sums.{sum_by-set, count_by-le-length}
use Rattle.std.proofs.lemmas.Option.{slice_get_within, get_or_from_slice_get}
use Rattle.free_pool.specs.Units.{IsFree, IsTaken, free_count}

pub free_count-taken : (pool : List Bool) (unit : ℕ) → IsFree pool unit → free_count (set pool unit false) + 1 ≡ free_count pool
free_count-taken pool unit is_free =
    let was = get_or_from_slice_get pool unit true true is_free in
    let sums = sum_by-set (λ (b : Bool). cond b 1 0) pool unit false true (slice_get_within pool unit true is_free) in
    omega (arith, rw was at sums)

pub free_count-given : (pool : List Bool) (unit : ℕ) → IsTaken pool unit → free_count (set pool unit true) ≡ free_count pool + 1
free_count-given pool unit is_taken =
    let was = get_or_from_slice_get pool unit false true is_taken in
    let sums = sum_by-set (λ (b : Bool). cond b 1 0) pool unit true true (slice_get_within pool unit false is_taken) in
    omega (arith, rw was at sums)

-- no more are free than there are
pub free_count-le : (pool : List Bool) → free_count pool ≤ length pool
free_count-le pool = count_by-le-length (λ (b : Bool). b) pool
