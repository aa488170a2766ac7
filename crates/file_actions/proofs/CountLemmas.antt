-- Numbers that are counted one after the other, and ranges that are within pages.
use Rattle.std.proofs.Common.{◌≡◌, ℕ, zero, suc, ◌+◌, ◌≤◌, Bool, true, false, cond, count_by, if◌then◌else◌, inl, inr, sym, ap, subst, ◌∙◌, arith}
use Rattle.std.proofs.lemmas.Bool.{cases_lt}
use mir.Val.{bool_byte}
use Rattle.std.specs.List.{range_with_len, sum_by}
use Rattle.std.proofs.lemmas.List.{map-id}
use Rattle.std.proofs.lemmas.List.FromFn.{length-range_with_len, sum_by-map-range_with_len_more}
use Rattle.std.proofs.lemmas.List.Sums.{count_by-le-length}

-- a test as a number
pub byte_of : (a b : Bool) → a ≡ b → bool_byte a ≡ (if b then 1 else 0)
byte_of a true is = ap bool_byte is
byte_of a false is = ap bool_byte is

-- one number more
pub counted-more : (p : ℕ → Bool) (k : ℕ) → count_by p (range_with_len 0 (k + 1)) ≡ count_by p (range_with_len 0 k) + (if p k then 1 else 0)
counted-more p k =
    let g : ℕ → ℕ = λ x. cond (p x) 1 0 in
    sym (ap (sum_by g) (map-id (range_with_len 0 (k + 1))))
    ∙ sum_by-map-range_with_len_more g (λ x. x) 0 k k (omega arith)
    ∙ ap (λ xs. sum_by g xs + g k) (map-id (range_with_len 0 k))

pub counted-few : (p : ℕ → Bool) (k : ℕ) → count_by p (range_with_len 0 k) ≤ k
counted-few p k = omega (arith, count_by-le-length p (range_with_len 0 k), length-range_with_len 0 k)

-- no more pass among fewer
pub counted-within : (p : ℕ → Bool) (k n : ℕ) → k ≤ n → count_by p (range_with_len 0 k) ≤ count_by p (range_with_len 0 n)
counted-within p k zero within = let none : k ≡ 0 = omega (arith, within) in subst (λ i. count_by p (range_with_len 0 i) ≤ count_by p (range_with_len 0 0)) (sym none) (omega arith)
counted-within p k (suc n) within =
    elim (cases_lt n k) as (λ _. count_by p (range_with_len 0 k) ≤ count_by p (range_with_len 0 (suc n))) [
      | inl last ↦ let same : suc n ≡ k = omega (arith, within, last) in subst (λ i. count_by p (range_with_len 0 i) ≤ count_by p (range_with_len 0 (suc n))) same (omega arith)
      | inr before ↦
          let next : suc n ≡ n + 1 = omega arith in
          let rest = counted-within p k n before in
          let more = counted-more p n in
          subst (λ i. count_by p (range_with_len 0 k) ≤ count_by p (range_with_len 0 i)) (sym next) (omega (arith, rest, more))
    ]

-- one that passes more
pub counted-one : (p : ℕ → Bool) (k : ℕ) → p k ≡ true → count_by p (range_with_len 0 (k + 1)) ≡ count_by p (range_with_len 0 k) + 1
counted-one p k is = counted-more p k ∙ ap (λ b. count_by p (range_with_len 0 k) + (if b then 1 else 0)) is

pub counted-same : (p : ℕ → Bool) (k : ℕ) → p k ≡ false → count_by p (range_with_len 0 (k + 1)) ≡ count_by p (range_with_len 0 k)
counted-same p k is =
    let e : count_by p (range_with_len 0 k) + 0 ≡ count_by p (range_with_len 0 k) = omega arith in
    counted-more p k ∙ ap (λ b. count_by p (range_with_len 0 k) + (if b then 1 else 0)) is ∙ e
