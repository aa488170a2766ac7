-- The first place that passes a test, in numbers that follow each other.
use Rattle.std.proofs.Common.{◌≡◌, inl, inr, ◌+◌, ◌<◌, ℕ, Bool, true, false, List, length, get_or, position, nat_lt, cond, Some, None, sym, ap, subst, ◌∙◌, arith}
use Rattle.std.specs.List.{range_with_len, position_or_len}
use Rattle.std.proofs.lemmas.Bool.{cases_Bool, lt-ltb, le-ltb, ltb-true, ltb-false}
use Rattle.std.proofs.lemmas.Option.{none-some}
use Rattle.std.proofs.lemmas.List.Sums.{fails_before_first, passes_at_first, position_or_len_is}
use Rattle.std.proofs.lemmas.List.FromFn.{length-range_with_len, get_or-range_with_len}

pub first_place : {X : Type 0} (p : X → Bool) (xs : List X) (i : ℕ) (d : X) → i < length xs → ((k : ℕ) → k < i → p (get_or xs k d) ≡ false) → p (get_or xs i d) ≡ true → position p xs ≡ Some i
first_place p xs i d within before here =
    let is : position_or_len p xs ≡ i = position_or_len_is p xs i d (omega arith) before (λ _. here) in
    ap (λ n. cond (nat_lt n (length xs)) (Some n) None) is ∙ ap (λ b. cond b (Some i) None) (lt-ltb i (length xs) within)

pub no_place : {X : Type 0} (p : X → Bool) (xs : List X) (d : X) → ((k : ℕ) → k < length xs → p (get_or xs k d) ≡ false) → position p xs ≡ None
no_place p xs d fails =
    let is : position_or_len p xs ≡ length xs = position_or_len_is p xs (length xs) d (omega arith) fails (λ h. absurd (omega arith)) in
    ap (λ n. cond (nat_lt n (length xs)) (Some n) None) is ∙ ap (λ b. cond b (Some (length xs)) None) (le-ltb (length xs) (length xs) (omega arith))

pub first_among : (p : ℕ → Bool) (a n i : ℕ) → i < n → ((k : ℕ) → k < i → p (a + k) ≡ false) → p (a + i) ≡ true → position p (range_with_len a n) ≡ Some i
first_among p a n i within before here =
    let size = length-range_with_len a n in
    let at : (k : ℕ) → k < n → get_or (range_with_len a n) k 0 ≡ a + k = λ k lt. get_or-range_with_len a n k 0 lt in
    first_place p (range_with_len a n) i 0 (omega arith) (λ k lt. ap p (at k (omega arith)) ∙ before k lt) (ap p (at i within) ∙ here)

pub none_among : (p : ℕ → Bool) (a n : ℕ) → ((k : ℕ) → k < n → p (a + k) ≡ false) → position p (range_with_len a n) ≡ None
none_among p a n fails =
    let size = length-range_with_len a n in
    no_place p (range_with_len a n) 0 (λ k lt. let within : k < n = omega arith in ap p (get_or-range_with_len a n k 0 within) ∙ fails k within)

-- where nothing is found none passes
pub none_found : (p : ℕ → Bool) (a n k : ℕ) → position p (range_with_len a n) ≡ None → k < n → p (a + k) ≡ false
none_found p a n k none below =
    let xs = range_with_len a n in
    let size = length-range_with_len a n in
    let at : get_or xs k 0 ≡ a + k = get_or-range_with_len a n k 0 below in
    let found = position_or_len p xs in
    elim (cases_Bool (nat_lt found (length xs))) as (λ _. p (a + k) ≡ false) [
      | inl here ↦ absurd (none-some found (sym none ∙ ap (λ b. cond b (Some found) None) here))
      | inr past ↦ ap p (sym at) ∙ fails_before_first p xs k 0 (omega (arith, ltb-false found (length xs) past))
    ]

-- what is found passes, and none before it does
pub record IsFirst (p : ℕ → Bool) (a n i : ℕ) : Type 0 where
  pub within : i < n
  pub here : p (a + i) ≡ true
  pub before : (k : ℕ) → k < i → p (a + k) ≡ false

pub one_found : (p : ℕ → Bool) (a n i : ℕ) → position p (range_with_len a n) ≡ Some i → IsFirst p a n i
one_found p a n i is =
    elim (cases_Bool (nat_lt found (length xs))) as (λ _. IsFirst p a n i) [
      | inl here ↦ of_found here
      | inr past ↦ absurd (none-some i (sym (ap (λ b. cond b (Some found) None) past) ∙ is))
    ]
  where
    xs : List ℕ
    xs = range_with_len a n

    found : ℕ
    found = position_or_len p xs

    at : (k : ℕ) → k < n → get_or xs k 0 ≡ a + k
    at k below = get_or-range_with_len a n k 0 below

    some_same : (x y : ℕ) → Some x ≡ Some y → x ≡ y
    some_same x y e = cc

    of_found : nat_lt found (length xs) ≡ true → IsFirst p a n i
    of_found here =
        let size = length-range_with_len a n in
        let same : found ≡ i = some_same found i (sym (ap (λ b. cond b (Some found) None) here) ∙ is) in
        let within : found < length xs = ltb-true found (length xs) here in
        subst (IsFirst p a n) same record {
          within = omega arith;
          here = ap p (sym (at found (omega arith))) ∙ passes_at_first p xs 0 within;
          before = λ k lt. ap p (sym (at k (omega arith))) ∙ fails_before_first p xs k 0 lt;
        }
