-- What holds of a list holds of each of its items.
use Rattle.std.proofs.Common.{◌≡◌, ◌⊎◌, inl, inr, ℕ, zero, suc, ◌+◌, ◌<◌, ◌≤◌, Bool, true, List, [], ◌∷◌, ◌++◌, refl, ap, ◌∙◌, arith}
use Rattle.std.specs.List.{list_all, range_with_len}
use Rattle.std.proofs.lemmas.Bool.{and_from, and_parts, cases_lt}

-- x is one of them
abbrev pub IsAmong : {A : Type 0} → A → List A → Type 0
IsAmong x [] = ⊥
IsAmong x (y ∷ ys) = (x ≡ y) ⊎ IsAmong x ys

pub all_of : {A : Type 0} (f : A → Bool) (x : A) (xs : List A) → list_all f xs ≡ true → IsAmong x xs → f x ≡ true
all_of f x [] all is = absurd is
all_of f x (y ∷ ys) all (inl same) = ap f same ∙ (and_parts (f y) (list_all f ys) all).0
all_of f x (y ∷ ys) all (inr later) = all_of f x ys (and_parts (f y) (list_all f ys) all).1 later

pub among_front : {A : Type 0} (x : A) (xs ys : List A) → IsAmong x xs → IsAmong x (xs ++ ys)
among_front x [] ys is = absurd is
among_front x (z ∷ xs) ys (inl same) = inl same
among_front x (z ∷ xs) ys (inr later) = inr (among_front x xs ys later)

pub among_back : {A : Type 0} (x : A) (xs ys : List A) → IsAmong x ys → IsAmong x (xs ++ ys)
among_back x [] ys is = is
among_back x (z ∷ xs) ys is = inr (among_back x xs ys is)

pub among_range : (n start count : ℕ) → start ≤ n → n < start + count → IsAmong n (range_with_len start count)
among_range n start zero from to = absurd (omega (arith, from, to))
among_range n start (suc count) from to = elim (cases_lt start n) as (λ _. (n ≡ start) ⊎ IsAmong n (range_with_len (start + 1) count)) [
  | inl later ↦ inr (among_range n (start + 1) count (omega (arith, later)) (omega (arith, to)))
  | inr here ↦ inl (omega (arith, from, here))
]

-- what each item passes all pass, where the items are those of a list
pub all_from : {A : Type 0} (f : A → Bool) (xs : List A) → ((x : A) → IsAmong x xs → f x ≡ true) → list_all f xs ≡ true
all_from f [] each = refl
all_from f (x ∷ xs) each = and_from (f x) (list_all f xs) (each x (inl refl)) (all_from f xs (λ y is. each y (inr is)))
