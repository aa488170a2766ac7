-- The first wrong word.
use Rattle.std.proofs.Common.{◌≡◌, ◌<◌, ◌≤◌, ◌+◌, ◌&&◌, ◌||◌, ℕ, Bool, true, false, List, Some, None, length, get_or, take, cond, ltb, leb, eqb, sym, ap, ◌∙◌, inl, inr, arith}
use Rattle.std.specs.List.{list_any, range_with_len, position_or_len}
use Rattle.std.proofs.Math.Bool.{or-true}
use Rattle.std.proofs.lemmas.Bool.{lt-ltb, le-ltb, le-leb, eq-eqb, cases_lt}
use Rattle.std.proofs.lemmas.List.{get_or-take, length-take}
use Rattle.std.proofs.lemmas.List.FromFn.{length-range_with_len, get_or-range_with_len}
use Rattle.std.proofs.lemmas.List.Folds.{list_any_at}
use Rattle.std.proofs.lemmas.List.Sums.{position_or_len_is, fails_before_first}
use Rattle.block_map.specs.Wrong.{is_wrong, first_wrong_entry}

module _ (words : List ℕ) where
  pub wrong_too_high : (i : ℕ) → length words + 65 < get_or words i 0 → is_wrong words i ≡ true
  wrong_too_high i high = ap (λ b. b || (leb 2 (get_or words i 0) && list_any (λ word. eqb word (get_or words i 0)) (take i words))) (lt-ltb _ _ high)

  pub wrong_twice : (i j : ℕ) → j < i → i < length words → 2 ≤ get_or words i 0 → get_or words j 0 ≡ get_or words i 0 → is_wrong words i ≡ true
  wrong_twice i j before within names same =
      let there = get_or-take i words j 0 before in
      let found = list_any_at (λ word. eqb word (get_or words i 0)) (take i words) j 0 (omega (arith, length-take i words)) (eq-eqb _ _ (there ∙ same)) in
      ap (λ b. ltb (length words + 65) (get_or words i 0) || (b && list_any (λ word. eqb word (get_or words i 0)) (take i words))) (le-leb _ _ names)
      ∙ ap (λ b. ltb (length words + 65) (get_or words i 0) || b) found
      ∙ or-true (ltb (length words + 65) (get_or words i 0))

  number : (k : ℕ) → k < length words → get_or (range_with_len 0 (length words)) k 0 ≡ k
  number k within = omega (arith, get_or-range_with_len 0 (length words) k 0 within)

  own : (k : ℕ) (b : Bool) → k < length words → is_wrong words k ≡ b → is_wrong words (get_or (range_with_len 0 (length words)) k 0) ≡ b
  own k b within test = ap (is_wrong words) (number k within) ∙ test

  -- the place of the first wrong word is where all before it are right
  first_place : (n : ℕ) → n ≤ length words → ((k : ℕ) → k < n → is_wrong words k ≡ false) → (n < length words → is_wrong words n ≡ true) → position_or_len (is_wrong words) (range_with_len 0 (length words)) ≡ n
  first_place n within right wrong = position_or_len_is (is_wrong words) (range_with_len 0 (length words)) n 0 (omega (arith, length-range_with_len 0 (length words)))
      (λ k below. own k false (omega arith) (right k below))
      (λ inside. own n true (omega (arith, length-range_with_len 0 (length words))) (wrong (omega (arith, length-range_with_len 0 (length words)))))

  first_by_place : first_wrong_entry words ≡ cond (ltb (position_or_len (is_wrong words) (range_with_len 0 (length words))) (length words)) (Some (position_or_len (is_wrong words) (range_with_len 0 (length words)))) None
  first_by_place = ap (λ n. cond (ltb (position_or_len (is_wrong words) (range_with_len 0 (length words))) n) (Some (position_or_len (is_wrong words) (range_with_len 0 (length words)))) None) (length-range_with_len 0 (length words))

  pub first_is : (n : ℕ) → n < length words → ((k : ℕ) → k < n → is_wrong words k ≡ false) → is_wrong words n ≡ true → first_wrong_entry words ≡ Some n
  first_is n within right wrong =
      let place = first_place n (omega arith) right (λ _. wrong) in
      first_by_place ∙ ap (λ p. cond (ltb p (length words)) (Some p) None) place ∙ ap (λ b. cond b (Some n) None) (lt-ltb n (length words) within)

  pub first_is_none : (n : ℕ) → length words ≤ n → ((k : ℕ) → k < n → is_wrong words k ≡ false) → first_wrong_entry words ≡ None
  first_is_none n all right =
      let place = first_place (length words) (omega arith) (λ k below. right k (omega arith)) (λ past. absurd (omega arith)) in
      first_by_place ∙ ap (λ p. cond (ltb p (length words)) (Some p) None) place ∙ ap (λ b. cond b (Some (length words)) None) (le-ltb (length words) (length words) (omega arith))

  pub right_from_none : first_wrong_entry words ≡ None → (k : ℕ) → k < length words → is_wrong words k ≡ false
  right_from_none none k within =
      elim (cases_lt (position_or_len (is_wrong words) (range_with_len 0 (length words))) (length words)) [
        | inl some ↦ absurd (some_none (sym (first_by_place ∙ ap (λ b. cond b (Some (position_or_len (is_wrong words) (range_with_len 0 (length words)))) None) (lt-ltb _ _ some)) ∙ none))
        | inr past ↦ ap (is_wrong words) (sym (number k within)) ∙ fails_before_first (is_wrong words) (range_with_len 0 (length words)) k 0 (omega arith)
      ]
    where
      some_none : {n : ℕ} → Some n ≡ None → ⊥
      some_none same = cc
