-- Numbers as text.
use Rattle.std.proofs.Common.{◌≡◌, ◌+◌, ◌*◌, ◌/◌, ◌%◌, ◌^◌, ◌<◌, ◌≤◌, ◌++◌, ℕ, zero, suc, true, false, [], ◌∷◌, length, nat_lt, refl, sym, ap, ◌∙◌, arith, rules, tests, inl, inr, decimal}
use Rattle.std.proofs.lemmas.Bool.{cases_lt}
use Rattle.std.proofs.lemmas.Fmt.{AppendsLastDigit, decimal_from_appends_wide, length-decimal-le_succ, length-decimal-le_wide}
use Rattle.outcome_walk.specs.Numbers.{numeral, numeral_in}

one_digit : (k n : ℕ) → n < 10 → numeral_in (suc k) n ≡ (48 + n) ∷ []
one_digit k n small = let e : nat_lt n 10 ≡ true = search (rules, tests) in rw (e, numeral_in) refl

more_digits : (k n : ℕ) → 10 ≤ n → numeral_in (suc k) n ≡ numeral_in k (n / 10) ++ (48 + n % 10) ∷ []
more_digits k n large = let e : nat_lt n 10 ≡ false = search (rules, tests) in rw (e, numeral_in) refl

appends : AppendsLastDigit numeral_in
appends = record { one = one_digit; more = more_digits }

-- room for more digits changes nothing
enough : (k j n : ℕ) → n < k → n < j → numeral_in k n ≡ numeral_in j n
enough zero j n a b = absurd (omega (arith, a))
enough (suc k) zero n a b = absurd (omega (arith, b))
enough (suc k) (suc j) n a b =
    elim (cases_lt n 10) [
      | inl small ↦ one_digit k n small ∙ sym (one_digit j n small)
      | inr large ↦ more_digits k n large ∙ ap (λ ds. ds ++ (48 + n % 10) ∷ []) (enough k j (n / 10) (omega (arith, a, large)) (omega (arith, b, large))) ∙ sym (more_digits j n large)
    ]

-- one digit, and one more behind others
pub numeral_small : (n : ℕ) → n < 10 → numeral n ≡ (48 + n) ∷ []
unfolding numeral
numeral_small n small = let e : n + 1 ≡ suc n = omega arith in ap (λ k. numeral_in k n) e ∙ one_digit n n small

pub numeral_more : (d n : ℕ) → d < 10 → 0 < n → numeral (d + 10 * n) ≡ numeral n ++ (48 + d) ∷ []
unfolding numeral
numeral_more d n small some =
    let m : ℕ = d + 10 * n in
    let e : m + 1 ≡ suc m = omega arith in
    let high : m / 10 ≡ n = omega (arith, small) in
    let low : m % 10 ≡ d = omega (arith, small) in
    ap (λ k. numeral_in k m) e ∙ more_digits m m (omega (arith, some)) ∙ ap (λ x. numeral_in m (m / 10) ++ (48 + x) ∷ []) low ∙ ap (λ x. numeral_in m x ++ (48 + d) ∷ []) high
    ∙ ap (λ ds. ds ++ (48 + d) ∷ []) (enough m (n + 1) n (omega (arith, some)) (omega arith))

-- std's word says the same as far as it goes
pub numeral_decimal : (n : ℕ) → n < 10 ^ 64 → numeral n ≡ decimal n
unfolding numeral
numeral_decimal n within = decimal_from_appends_wide numeral_in appends (n + 1) n within short
  where
    short : length (decimal n) ≤ n + 1
    short = elim (cases_lt n (2 ^ 64)) [
      | inl small ↦ length-decimal-le_succ n small
      | inr large ↦ let long = length-decimal-le_wide 64 n (omega arith) within within in omega (arith, long, large)
    ]

pub numeral_zero : numeral 0 ≡ 48 ∷ []
numeral_zero = numeral_small 0 (omega arith)
