-- Digits as text, the greatest first.
use Rattle.std.proofs.Common.{◌≡◌, ◌+◌, ◌-◌, ◌*◌, ◌<◌, ◌≤◌, ◌++◌, ℕ, Bool, zero, true, false, List, [], ◌∷◌, drop, get_or, length, nat_lt, refl, sym, ap, ◌∙◌, arith, rules, tests, inl, inr, append_assoc, append-nil, ◌||◌, if◌then◌else◌}
use Rattle.std.proofs.lemmas.Bool.{cases_lt}
use Rattle.outcome_walk.specs.Numbers.{numeral, value_of}
use Rattle.outcome_walk.proofs.NumberLemmas.{numeral_more, numeral_small, numeral_zero}
use Rattle.outcome_walk.proofs.ValueLemmas.{value_next}

-- a number as text, where it is not zero
unfoldable pub spelled : ℕ → List ℕ
spelled n = elim (nat_lt 0 n) [ true ↦ numeral n | false ↦ [] ]

pub spelled_none : spelled 0 ≡ []
unfolding spelled
spelled_none = refl

pub spelled_some : (n : ℕ) → nat_lt 0 n ≡ true → spelled n ≡ numeral n
unfolding spelled
spelled_some n some = rw (some, spelled) refl

pub spelled_zero : (n : ℕ) → nat_lt 0 n ≡ false → spelled n ≡ []
unfolding spelled
spelled_zero n none = rw (none, spelled) refl

-- a digit behind others: a zero with nothing before it is left out
pub spelled_next : (d n : ℕ) → d < 10 → spelled (d + 10 * n) ≡ spelled n ++ (if nat_lt 0 n || nat_lt 0 d then (48 + d) ∷ [] else [])
spelled_next d n small =
    elim (cases_lt 0 n) [
      | inl some ↦
          let n_some : nat_lt 0 n ≡ true = search (rules, tests) in
          let both_some : nat_lt 0 (d + 10 * n) ≡ true = search (rules, tests) in
          spelled_some (d + 10 * n) both_some ∙ numeral_more d n small some ∙ ap (λ ds. ds ++ (48 + d) ∷ []) (sym (spelled_some n n_some)) ∙ ap (λ b. spelled n ++ (if b || nat_lt 0 d then (48 + d) ∷ [] else [])) (sym n_some)
      | inr none ↦
          let n_none : nat_lt 0 n ≡ false = search (rules, tests) in
          let value : d + 10 * n ≡ d = omega (arith, none) in
          ap spelled value ∙ alone d small ∙ ap (λ ds. ds ++ (if nat_lt 0 d then (48 + d) ∷ [] else [])) (sym (spelled_zero n n_none)) ∙ ap (λ b. spelled n ++ (if b || nat_lt 0 d then (48 + d) ∷ [] else [])) (sym n_none)
    ]
  where
    alone : (d : ℕ) → d < 10 → spelled d ≡ (if nat_lt 0 d then (48 + d) ∷ [] else [])
    alone d small =
        elim (cases_lt 0 d) [
          | inl some ↦
              let e : nat_lt 0 d ≡ true = search (rules, tests) in
              spelled_some d e ∙ numeral_small d small ∙ ap (λ b. if b then (48 + d) ∷ [] else []) (sym e)
          | inr none ↦
              let e : nat_lt 0 d ≡ false = search (rules, tests) in
              spelled_zero d e ∙ ap (λ b. if b then (48 + d) ∷ [] else []) (sym e)
        ]

-- whether there is a digit that is not zero
pub some_next : (d n : ℕ) → nat_lt 0 (d + 10 * n) ≡ (nat_lt 0 n || nat_lt 0 d)
some_next d n =
    elim (cases_lt 0 n) [
      | inl some ↦
          let n_some : nat_lt 0 n ≡ true = search (rules, tests) in
          let e : nat_lt 0 (d + 10 * n) ≡ true = search (rules, tests) in
          e ∙ ap (λ b. b || nat_lt 0 d) (sym n_some)
      | inr none ↦
          let n_none : nat_lt 0 n ≡ false = search (rules, tests) in
          let value : d + 10 * n ≡ d = omega (arith, none) in
          ap (nat_lt 0) value ∙ ap (λ b. b || nat_lt 0 d) (sym n_none)
    ]

-- one digit more, downwards
module _ (ds : List ℕ) (n : ℕ) (lt : n < length ds) where
  digit_next : value_of (drop (length ds - (n + 1)) ds) ≡ get_or ds (length ds - 1 - n) 0 + 10 * value_of (drop (length ds - n) ds)
  digit_next =
      let same : length ds - (n + 1) ≡ length ds - 1 - n = omega arith in
      ap (λ k. value_of (drop k ds)) same ∙ value_next ds (length ds - 1 - n) (length ds - n) (omega (arith, lt))

  module _ (d : ℕ) (is : d ≡ get_or ds (length ds - 1 - n) 0) where
    here : d + 10 * value_of (drop (length ds - n) ds) ≡ value_of (drop (length ds - (n + 1)) ds)
    here = ap (λ x. x + 10 * value_of (drop (length ds - n) ds)) is ∙ sym digit_next

    pub text_next : d < 10 → (old out new : List ℕ) (any : Bool) → out ≡ old ++ spelled (value_of (drop (length ds - n) ds)) → any ≡ nat_lt 0 (value_of (drop (length ds - n) ds))
        → new ≡ out ++ (if any || nat_lt 0 d then (48 + d) ∷ [] else []) → new ≡ old ++ spelled (value_of (drop (length ds - (n + 1)) ds))
    text_next small old out new any was told is_now =
        let before = value_of (drop (length ds - n) ds) in
        is_now ∙ ap (λ b. out ++ (if b || nat_lt 0 d then (48 + d) ∷ [] else [])) told
        ∙ ap (λ text. text ++ (if nat_lt 0 before || nat_lt 0 d then (48 + d) ∷ [] else [])) was
        ∙ append_assoc old (spelled before) (if nat_lt 0 before || nat_lt 0 d then (48 + d) ∷ [] else [])
        ∙ ap (λ text. old ++ text) (sym (spelled_next d before small) ∙ ap spelled here)

    pub any_next : (any : Bool) → any ≡ nat_lt 0 (value_of (drop (length ds - n) ds)) → (any || nat_lt 0 d) ≡ nat_lt 0 (value_of (drop (length ds - (n + 1)) ds))
    any_next any told = ap (λ b. b || nat_lt 0 d) told ∙ sym (some_next d (value_of (drop (length ds - n) ds))) ∙ ap (nat_lt 0) here

-- all digits
module _ (ds : List ℕ) (n : ℕ) (past : length ds ≤ n) (old out : List ℕ) where
  whole : length ds - n ≡ 0
  whole = omega (arith, past)

  pub spelled_value : (any : Bool) → any ≡ true → any ≡ nat_lt 0 (value_of (drop (length ds - n) ds)) → out ≡ old ++ spelled (value_of (drop (length ds - n) ds)) → out ≡ old ++ numeral (value_of ds)
  spelled_value any is told text =
      let some : nat_lt 0 (value_of ds) ≡ true = sym (told ∙ ap (λ k. nat_lt 0 (value_of (drop k ds))) whole) ∙ is in
      text ∙ ap (λ k. old ++ spelled (value_of (drop k ds))) whole ∙ ap (λ t. old ++ t) (spelled_some (value_of ds) some)

  pub zero_value : (new : List ℕ) (any : Bool) → any ≡ false → any ≡ nat_lt 0 (value_of (drop (length ds - n) ds)) → out ≡ old ++ spelled (value_of (drop (length ds - n) ds)) → new ≡ out ++ 48 ∷ []
      → new ≡ old ++ numeral (value_of ds)
  zero_value new any is told text more =
      let none : nat_lt 0 (value_of ds) ≡ false = sym (told ∙ ap (λ k. nat_lt 0 (value_of (drop k ds))) whole) ∙ is in
      let zero : value_of ds ≡ 0 = search (rules, tests) in
      let nothing_yet : out ≡ old = text ∙ ap (λ k. old ++ spelled (value_of (drop k ds))) whole ∙ ap (λ t. old ++ t) (spelled_zero (value_of ds) none) ∙ append-nil old in
      more ∙ ap (λ t. t ++ 48 ∷ []) nothing_yet ∙ ap (λ t. old ++ t) (sym numeral_zero) ∙ ap (λ v. old ++ numeral v) (sym zero)
