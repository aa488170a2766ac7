-- What digits are worth.
use Rattle.std.proofs.Common.{◌≡◌, ◌+◌, ◌*◌, ◌<◌, ◌≤◌, ℕ, nat_le, zero, suc, false, List, [], ◌∷◌, drop, get_or, length, refl, ap, ◌∙◌, arith, rules, tests}
use Rattle.std.proofs.lemmas.List.{drop_all}
use Rattle.outcome_walk.specs.Numbers.{value_of}

nothing : (i : ℕ) → value_of (drop i []) ≡ 0
nothing zero = refl
nothing (suc i) = refl

-- a digit, and what the digits above it make
value_step : (ds : List ℕ) (i : ℕ) → value_of (drop i ds) ≡ get_or ds i 0 + 10 * value_of (drop (suc i) ds)
value_step [] i = let here = nothing i in omega (arith, here)
value_step (d ∷ ds) zero = refl
value_step (d ∷ ds) (suc i) = value_step ds i

pub value_next : (ds : List ℕ) (i j : ℕ) → j ≡ i + 1 → value_of (drop i ds) ≡ get_or ds i 0 + 10 * value_of (drop j ds)
value_next ds i j is =
    let step : suc i ≡ j = omega (arith, is) in
    value_step ds i ∙ ap (λ k. get_or ds i 0 + 10 * value_of (drop k ds)) step

-- digits above some make no more than all
pub value_below : (ds : List ℕ) (i : ℕ) → value_of (drop i ds) ≤ value_of ds
value_below ds zero = omega arith
value_below [] (suc i) = omega arith
value_below (d ∷ ds) (suc i) = let rest = value_below ds i in omega (arith, rest)

-- a front that is too large already
pub too_large : (ds : List ℕ) (i most : ℕ) → most < value_of (drop i ds) → false ≡ nat_le (value_of ds) most
too_large ds i most over =
    let below = value_below ds i in
    let more : most < value_of ds = omega (arith, below, over) in
    search (rules, tests)

-- nothing above the last digit
pub value_end : (ds : List ℕ) (i : ℕ) → length ds ≤ i → value_of (drop i ds) ≡ 0
value_end ds i past = ap value_of (drop_all i ds past)
