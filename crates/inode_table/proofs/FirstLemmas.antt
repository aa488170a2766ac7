-- Where a test first passes.
use Rattle.std.proofs.Common.{◌≡◌, ◌<◌, ℕ, Bool, true, false, List, Some, None, length, get_or, position, cond, ltb, sym, ap, ◌∙◌, inl, inr, arith}
use Rattle.std.specs.List.{range_with_len, position_or_len}
use Rattle.std.proofs.lemmas.Bool.{lt-ltb, le-ltb, cases_lt}
use Rattle.std.proofs.lemmas.Option.{none-some}
use Rattle.std.proofs.lemmas.List.FromFn.{length-range_with_len, get_or-range_with_len}
use Rattle.std.proofs.lemmas.List.Sums.{position_or_len_is, fails_before_first}

module _ {X : Type 0} (p : X → Bool) (xs : List X) (d : X) where
  by_place : (n : ℕ) → position_or_len p xs ≡ n → position p xs ≡ cond (ltb n (length xs)) (Some n) None
  by_place n is = ap (λ i. cond (ltb i (length xs)) (Some i) None) is

  pub position_is : (n : ℕ) → n < length xs → ((k : ℕ) → k < n → p (get_or xs k d) ≡ false) → p (get_or xs n d) ≡ true → position p xs ≡ Some n
  position_is n within right wrong =
      by_place n (position_or_len_is p xs n d (omega arith) right (λ _. wrong)) ∙ ap (λ b. cond b (Some n) None) (lt-ltb n (length xs) within)

  pub position_is_none : ((k : ℕ) → k < length xs → p (get_or xs k d) ≡ false) → position p xs ≡ None
  position_is_none right =
      by_place (length xs) (position_or_len_is p xs (length xs) d (omega arith) right (λ past. absurd (omega arith)))
      ∙ ap (λ b. cond b (Some (length xs)) None) (le-ltb (length xs) (length xs) (omega arith))

  pub fails-position_none : position p xs ≡ None → (k : ℕ) → k < length xs → p (get_or xs k d) ≡ false
  fails-position_none none k within =
      elim (cases_lt (position_or_len p xs) (length xs)) [
        | inl some ↦ absurd (none-some _ (sym none ∙ ap (λ b. cond b (Some (position_or_len p xs)) None) (lt-ltb _ _ some)))
        | inr past ↦ fails_before_first p xs k d (omega arith)
      ]

-- the same of the numbers below n
module _ (p : ℕ → Bool) (n : ℕ) where
  number : (k : ℕ) → k < n → get_or (range_with_len 0 n) k 0 ≡ k
  number k within = omega (arith, get_or-range_with_len 0 n k 0 within)

  own : (k : ℕ) (b : Bool) → k < n → p k ≡ b → p (get_or (range_with_len 0 n) k 0) ≡ b
  own k b within test = ap p (number k within) ∙ test

  pub first_is : (i : ℕ) → i < n → ((k : ℕ) → k < i → p k ≡ false) → p i ≡ true → position p (range_with_len 0 n) ≡ Some i
  first_is i within right wrong =
      position_is p (range_with_len 0 n) 0 i (omega (arith, length-range_with_len 0 n)) (λ k below. own k false (omega arith) (right k below)) (own i true within wrong)

  pub first_is_none : ((k : ℕ) → k < n → p k ≡ false) → position p (range_with_len 0 n) ≡ None
  first_is_none right =
      position_is_none p (range_with_len 0 n) 0 (λ k within. let below : k < n = omega (arith, length-range_with_len 0 n) in own k false below (right k below))

  pub right_from_none : position p (range_with_len 0 n) ≡ None → (k : ℕ) → k < n → p k ≡ false
  right_from_none none k within =
      ap p (sym (number k within)) ∙ fails-position_none p (range_with_len 0 n) 0 none k (omega (arith, length-range_with_len 0 n))
