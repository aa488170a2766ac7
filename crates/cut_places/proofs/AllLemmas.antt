-- Tests of all items of a list.
use Rattle.std.proofs.Common.{◌≡◌, ◌⊎◌, inl, inr, ℕ, zero, suc, ◌+◌, ◌<◌, ◌≤◌, ◌&&◌, Bool, true, false, List, [], ◌∷◌, ◌++◌, refl, sym, ap, ◌∙◌, arith}
use Rattle.std.specs.List.{list_all, range_with_len}
use Rattle.std.proofs.lemmas.Bool.{and_from, and_parts, cases_lt}

-- x is one of them
abbrev pub IsOneOf : {A : Type 0} → A → List A → Type 0
IsOneOf x [] = ⊥
IsOneOf x (y ∷ ys) = (x ≡ y) ⊎ IsOneOf x ys

pub all_of : {A : Type 0} (f : A → Bool) (x : A) (xs : List A) → list_all f xs ≡ true → IsOneOf x xs → f x ≡ true
all_of f x [] all is = absurd is
all_of f x (y ∷ ys) all (inl same) = ap f same ∙ (and_parts (f y) (list_all f ys) all).0
all_of f x (y ∷ ys) all (inr later) = all_of f x ys (and_parts (f y) (list_all f ys) all).1 later

pub all_so : {A : Type 0} (f g : A → Bool) (xs : List A) → ((x : A) → IsOneOf x xs → f x ≡ true → g x ≡ true) → list_all f xs ≡ true → list_all g xs ≡ true
all_so f g [] so all = refl
all_so f g (x ∷ xs) so all =
    let parts = and_parts (f x) (list_all f xs) all in
    and_from (g x) (list_all g xs) (so x (inl refl) parts.0) (all_so f g xs (λ y is. so y (inr is)) parts.1)

pub all_alike : {A : Type 0} (f g : A → Bool) (xs : List A) → ((x : A) → IsOneOf x xs → f x ≡ g x) → list_all f xs ≡ list_all g xs
all_alike f g [] same = refl
all_alike f g (x ∷ xs) same = ap (λ b. b && list_all f xs) (same x (inl refl)) ∙ ap (λ b. g x && b) (all_alike f g xs (λ y is. same y (inr is)))

pub all_append : {A : Type 0} (f : A → Bool) (xs ys : List A) → list_all f (xs ++ ys) ≡ (list_all f xs && list_all f ys)
all_append f [] ys = refl
all_append f (x ∷ xs) ys = by_first (f x) (all_append f xs ys)
  where
    by_first : (b : Bool) → list_all f (xs ++ ys) ≡ (list_all f xs && list_all f ys) → (b && list_all f (xs ++ ys)) ≡ ((b && list_all f xs) && list_all f ys)
    by_first true rest = rest
    by_first false rest = refl

-- of so many numbers
pub one_of_range : (f : ℕ → Bool) (a count k : ℕ) → a ≤ k → k < a + count → list_all f (range_with_len a count) ≡ true → f k ≡ true
one_of_range f a zero k from to all = absurd (omega (arith, from, to))
one_of_range f a (suc count) k from to all =
    let parts = and_parts (f a) (list_all f (range_with_len (a + 1) count)) all in
    elim (cases_lt a k) as (λ _. f k ≡ true) [
      | inl later ↦ one_of_range f (a + 1) count k (omega (arith, later)) (omega (arith, to)) parts.1
      | inr here ↦ let same : k ≡ a = omega (arith, from, here) in ap f same ∙ parts.0
    ]

pub range_so : (f : ℕ → Bool) (a count : ℕ) → ((k : ℕ) → a ≤ k → k < a + count → f k ≡ true) → list_all f (range_with_len a count) ≡ true
range_so f a zero each = refl
range_so f a (suc count) each =
    and_from (f a) (list_all f (range_with_len (a + 1) count)) (each a (omega arith) (omega arith))
    (range_so f (a + 1) count (λ k from to. each k (omega (arith, from)) (omega (arith, to))))

-- two tests that follow from each other
pub same_test : (a b : Bool) → (a ≡ true → b ≡ true) → (b ≡ true → a ≡ true) → a ≡ b
same_test true true there back = refl
same_test true false there back = sym (there refl)
same_test false true there back = back refl
same_test false false there back = refl

pub same_where : (a b c : Bool) → (a ≡ true → b ≡ c) → (a && b) ≡ (a && c)
same_where true b c same = same refl
same_where false b c same = refl
