-- Tests over lists.
use Rattle.std.proofs.Common.{◌≡◌, inl, inr, ℕ, zero, suc, ◌+◌, ◌<◌, ◌≤◌, Bool, true, List, [], ◌∷◌, refl, sym, ap, ◌∙◌, arith}
use Rattle.std.specs.List.{list_all, list_any, range_with_len}
use Rattle.std.proofs.lemmas.Bool.{and_from, and_parts, cases_lt, or_left, or_right}
use Rattle.line_device.specs.History.{IsIn}

-- what passes of each number passes of a range, and of any list
pub range_all : (f : ℕ → Bool) (start count : ℕ) → ((k : ℕ) → k < count → f (start + k) ≡ true) → list_all f (range_with_len start count) ≡ true
range_all f start zero each = refl
range_all f start (suc count) each =
    let first : start + 0 ≡ start = omega arith in
    and_from (f start) (list_all f (range_with_len (start + 1) count)) (sym (ap f first) ∙ each 0 (omega arith))
    (range_all f (start + 1) count (λ k lt. let next : start + (k + 1) ≡ start + 1 + k = omega arith in sym (ap f next) ∙ each (k + 1) (omega (arith, lt))))

pub each_all : {A : Type 0} (f : A → Bool) (xs : List A) → ((x : A) → f x ≡ true) → list_all f xs ≡ true
each_all f [] each = refl
each_all f (x ∷ xs) each = and_from (f x) (list_all f xs) (each x) (each_all f xs each)

-- a value that passes
pub any_in : (f : ℕ → Bool) (v : ℕ) (xs : List ℕ) → IsIn v xs → f v ≡ true → list_any f xs ≡ true
any_in f v [] is passes = absurd is
any_in f v (x ∷ xs) (inl same) passes = or_left (f x) (list_any f xs) (sym (ap f same) ∙ passes)
any_in f v (x ∷ xs) (inr later) passes = or_right (f x) (list_any f xs) (any_in f v xs later passes)

-- below a number, both ways
pub below_all : (f : ℕ → Bool) (count : ℕ) → ((k : ℕ) → k < count → f k ≡ true) → list_all f (range_with_len 0 count) ≡ true
below_all f count each = range_all f 0 count (λ k lt. let same : 0 + k ≡ k = omega arith in ap f same ∙ each k lt)

pub range_each : (f : ℕ → Bool) (start count : ℕ) → list_all f (range_with_len start count) ≡ true → (k : ℕ) → start ≤ k → k < start + count → f k ≡ true
range_each f start zero all k from to = absurd (omega (arith, from, to))
range_each f start (suc count) all k from to =
    let parts = and_parts (f start) (list_all f (range_with_len (start + 1) count)) all in
    elim (cases_lt start k) as (λ _. f k ≡ true) [
      | inl later ↦ range_each f (start + 1) count parts.1 k (omega (arith, later)) (omega (arith, to))
      | inr here ↦ let same : start ≡ k = omega (arith, from, here) in sym (ap f same) ∙ parts.0
    ]

pub below_each : (f : ℕ → Bool) (count : ℕ) → list_all f (range_with_len 0 count) ≡ true → (k : ℕ) → k < count → f k ≡ true
below_each f count all k lt = range_each f 0 count all k (omega arith) (omega (arith, lt))

pub all_more : {A : Type 0} (f g : A → Bool) (xs : List A) → ((x : A) → f x ≡ true → g x ≡ true) → list_all f xs ≡ true → list_all g xs ≡ true
all_more f g [] each all = refl
all_more f g (x ∷ xs) each all =
    let parts = and_parts (f x) (list_all f xs) all in
    and_from (g x) (list_all g xs) (each x parts.0) (all_more f g xs each parts.1)
