-- Tests over ranges of numbers.
use Rattle.std.proofs.Common.{◌≡◌, inl, inr, ℕ, zero, suc, ◌+◌, ◌<◌, ◌≤◌, Bool, true, refl, sym, ap, ◌∙◌, arith}
use Rattle.std.specs.List.{list_all, range_with_len}
use Rattle.std.proofs.lemmas.Bool.{and_from, and_parts, cases_eq, cases_lt}
use Rattle.std.proofs.lemmas.Bool.Decides.{same_from_decides}

pub range_all : (f : ℕ → Bool) (start count : ℕ) → ((k : ℕ) → k < count → f (start + k) ≡ true) → list_all f (range_with_len start count) ≡ true
range_all f start zero each = refl
range_all f start (suc count) each =
    let first : start + 0 ≡ start = omega arith in
    and_from (f start) (list_all f (range_with_len (start + 1) count)) (sym (ap f first) ∙ each 0 (omega arith))
    (range_all f (start + 1) count (λ k lt. let next : start + (k + 1) ≡ start + 1 + k = omega arith in sym (ap f next) ∙ each (k + 1) (omega (arith, lt))))

pub range_each : (f : ℕ → Bool) (start count : ℕ) → list_all f (range_with_len start count) ≡ true → (k : ℕ) → start ≤ k → k < start + count → f k ≡ true
range_each f start zero all k from to = absurd (omega (arith, from, to))
range_each f start (suc count) all k from to =
    let parts = and_parts (f start) (list_all f (range_with_len (start + 1) count)) all in
    elim (cases_lt start k) as (λ _. f k ≡ true) [
      | inl later ↦ range_each f (start + 1) count parts.1 k (omega (arith, later)) (omega (arith, to))
      | inr here ↦ let same : start ≡ k = omega (arith, from, here) in sym (ap f same) ∙ parts.0
    ]

-- a test that all numbers but one pass is that of this one
pub only_one : (f : ℕ → Bool) (count w : ℕ) → w < count → ((k : ℕ) → k < count → (k ≡ w → ⊥) → f k ≡ true) → list_all f (range_with_len 0 count) ≡ f w
only_one f count w lt others =
    same_from_decides {P = f w ≡ true} (list_all f (range_with_len 0 count)) (f w)
    (λ all. range_each f 0 count all w (omega arith) (omega (arith, lt)), λ is. range_all f 0 count (λ k below. by_place (0 + k) (omega (arith, below)) is))
    (λ is. is, λ is. is)
  where
    by_place : (k : ℕ) → k < count → f w ≡ true → f k ≡ true
    by_place k below is = elim (cases_eq k w) as (λ _. f k ≡ true) [ inl same ↦ ap f same ∙ is | inr other ↦ others k below other ]
