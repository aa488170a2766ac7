-- The first number below a limit that passes a test.
use Rattle.std.proofs.Common.{◌≡◌, ◌<◌, ℕ, Bool, true, false, Some, None, length, get_or, position, cond, ltb, sym, ap, ◌∙◌, inl, inr, arith}
use Rattle.std.specs.List.{range_with_len, position_or_len}
use Rattle.std.proofs.lemmas.Bool.{lt-ltb, le-ltb, ltb-true, cases_lt}
use Rattle.std.proofs.lemmas.Option.{cond_some, none-some}
use Rattle.std.proofs.lemmas.List.FromFn.{length-range_with_len, get_or-range_with_len}
use Rattle.std.proofs.lemmas.List.Sums.{position_or_len_is, fails_before_first}

module _ (p : ℕ → Bool) (len : ℕ) where
  number : (k : ℕ) → k < len → get_or (range_with_len 0 len) k 0 ≡ k
  number k within = omega (arith, get_or-range_with_len 0 len k 0 within)

  size : length (range_with_len 0 len) ≡ len
  size = length-range_with_len 0 len

  by_place : position p (range_with_len 0 len) ≡ cond (ltb (position_or_len p (range_with_len 0 len)) len) (Some (position_or_len p (range_with_len 0 len))) None
  by_place = ap (λ n. cond (ltb (position_or_len p (range_with_len 0 len)) n) (Some (position_or_len p (range_with_len 0 len))) None) size

  pub first_is : (n : ℕ) → n < len → ((k : ℕ) → k < n → p k ≡ false) → p n ≡ true → position p (range_with_len 0 len) ≡ Some n
  first_is n within before here =
      let place = position_or_len_is p (range_with_len 0 len) n 0 (omega (arith, size))
      (λ k below. ap p (number k (omega arith)) ∙ before k below) (λ _. ap p (number n within) ∙ here) in
      by_place ∙ ap (λ i. cond (ltb i len) (Some i) None) place ∙ ap (λ b. cond b (Some n) None) (lt-ltb n len within)

  pub first_is_none : ((k : ℕ) → k < len → p k ≡ false) → position p (range_with_len 0 len) ≡ None
  first_is_none none =
      let place = position_or_len_is p (range_with_len 0 len) len 0 (omega (arith, size))
      (λ k below. ap p (number k below) ∙ none k below) (λ past. absurd (omega (arith, size))) in
      by_place ∙ ap (λ i. cond (ltb i len) (Some i) None) place ∙ ap (λ b. cond b (Some len) None) (le-ltb len len (omega arith))

  pub first_within : (n : ℕ) → position p (range_with_len 0 len) ≡ Some n → n < len
  first_within n found =
      let parts = cond_some (ltb (position_or_len p (range_with_len 0 len)) len) (position_or_len p (range_with_len 0 len)) n (sym by_place ∙ found) in
      omega (arith, ltb-true _ _ parts.0, parts.1)

  pub fails_where_none : position p (range_with_len 0 len) ≡ None → (k : ℕ) → k < len → p k ≡ false
  fails_where_none none k within =
      elim (cases_lt (position_or_len p (range_with_len 0 len)) len) [
        | inl some ↦ absurd (none-some _ (sym none ∙ by_place ∙ ap (λ b. cond b (Some (position_or_len p (range_with_len 0 len))) None) (lt-ltb _ _ some)))
        | inr past ↦ ap p (sym (number k within)) ∙ fails_before_first p (range_with_len 0 len) k 0 (omega arith)
      ]
