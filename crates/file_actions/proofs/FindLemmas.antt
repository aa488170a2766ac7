-- The first number that passes a test, of those that follow each other.
use Rattle.std.proofs.Common.{◌≡◌, ℕ, zero, suc, ◌+◌, ◌<◌, ◌≤◌, Bool, true, false, cond, Some, None, refl, sym, ap, ◌∙◌, inl, inr, arith}
use Rattle.std.specs.List.{find, range_with_len}
use Rattle.std.proofs.lemmas.Bool.{cases_Bool, cases_lt}
use Rattle.std.proofs.lemmas.Option.{none-some}

pub found-first : (p : ℕ → Bool) (from count n : ℕ) → from ≤ n → n < from + count → ((i : ℕ) → from ≤ i → i < n → p i ≡ false) → p n ≡ true → find p (range_with_len from count) ≡ Some n
found-first p from zero n past below before here = absurd (omega (arith, past, below))
found-first p from (suc count) n past below before here =
    elim (cases_lt from n) as (λ _. cond (p from) (Some from) (find p (range_with_len (from + 1) count)) ≡ Some n) [
      | inl later ↦
          ap (λ b. cond b (Some from) (find p (range_with_len (from + 1) count))) (before from (omega arith) later)
          ∙ found-first p (from + 1) count n (omega (arith, later)) (omega (arith, below)) (λ i after lt. before i (omega (arith, after)) lt) here
      | inr now ↦
          let same : n ≡ from = omega (arith, past, now) in
          ap (λ b. cond b (Some from) (find p (range_with_len (from + 1) count))) (sym (ap p same) ∙ here) ∙ ap (λ k. Some k) (sym same)
    ]

pub found-none : (p : ℕ → Bool) (from count : ℕ) → ((i : ℕ) → from ≤ i → i < from + count → p i ≡ false) → find p (range_with_len from count) ≡ None
found-none p from zero fails = refl
found-none p from (suc count) fails =
    ap (λ b. cond b (Some from) (find p (range_with_len (from + 1) count))) (fails from (omega arith) (omega arith))
    ∙ found-none p (from + 1) count (λ i past below. fails i (omega (arith, past)) (omega (arith, below)))

pub none-passes : (p : ℕ → Bool) (from count n : ℕ) → find p (range_with_len from count) ≡ None → from ≤ n → n < from + count → p n ≡ false
none-passes p from zero n none past below = absurd (omega (arith, past, below))
none-passes p from (suc count) n none past below =
    elim (cases_Bool (p from)) as (λ _. p n ≡ false) [
      | inl here ↦ absurd (none-some from (sym none ∙ ap (λ b. cond b (Some from) (find p (range_with_len (from + 1) count))) here))
      | inr not_ ↦ elim (cases_lt from n) as (λ _. p n ≡ false) [
        | inl later ↦ none-passes p (from + 1) count n (sym (ap (λ b. cond b (Some from) (find p (range_with_len (from + 1) count))) not_) ∙ none) (omega (arith, later)) (omega (arith, below))
        | inr now ↦ let same : n ≡ from = omega (arith, past, now) in ap p same ∙ not_
      ]
    ]
