-- Items that are among others, and tests over all of them.
use Rattle.std.proofs.Common.{◌≡◌, ◌⊎◌, inl, inr, ℕ, zero, suc, ◌+◌, ◌<◌, ◌≤◌, ◌==◌, not, Bool, true, false, ◌&&◌, List, [], ◌∷◌, map, refl, sym, ap, subst, ◌∙◌, arith}
use Rattle.std.specs.List.{list_all, range_with_len}
use Rattle.std.proofs.lemmas.Bool.{and_from, and_parts, eqb-true}
use Rattle.cut_places.specs.Enough.{IsAmong}

-- what all pass each of them passes, and back
pub all_of : {A : Type 0} (f : A → Bool) (x : A) (xs : List A) → list_all f xs ≡ true → IsAmong x xs → f x ≡ true
all_of f x [] all is = absurd is
all_of f x (y ∷ ys) all (inl same) = ap f same ∙ (and_parts (f y) (list_all f ys) all).0
all_of f x (y ∷ ys) all (inr later) = all_of f x ys (and_parts (f y) (list_all f ys) all).1 later

pub all_from : {A : Type 0} (f : A → Bool) (xs : List A) → ((x : A) → IsAmong x xs → f x ≡ true) → list_all f xs ≡ true
all_from f [] each = refl
all_from f (x ∷ xs) each = and_from (f x) (list_all f xs) (each x (inl refl)) (all_from f xs (λ y is. each y (inr is)))

-- all numbers of a range
pub range_all : (f : ℕ → Bool) (start count : ℕ) → ((k : ℕ) → start ≤ k → k < start + count → f k ≡ true) → list_all f (range_with_len start count) ≡ true
range_all f start zero each = refl
range_all f start (suc count) each =
    and_from (f start) (list_all f (range_with_len (start + 1) count)) (each start (omega arith) (omega arith))
    (range_all f (start + 1) count (λ k from to. each k (omega (arith, from)) (omega (arith, to))))

-- whether a number is among them
pub among_or_not : (n : ℕ) (ns : List ℕ) → IsAmong n ns ⊎ (list_all (λ m. not (m == n)) ns ≡ true)
among_or_not n [] = inr refl
among_or_not n (m ∷ ns) = by_first (m == n) refl (among_or_not n ns)
  where
    by_first : (b : Bool) → (m == n) ≡ b → IsAmong n ns ⊎ (list_all (λ k. not (k == n)) ns ≡ true) → IsAmong n (m ∷ ns) ⊎ ((not b && list_all (λ k. not (k == n)) ns) ≡ true)
    by_first true is rest = inl (inl (sym (eqb-true m n is)))
    by_first false is (inl later) = inl (inr later)
    by_first false is (inr none) = inr none

-- one of those that become numbers
pub among_numbers : {A : Type 0} (number : A → ℕ) (n : ℕ) (xs : List A) → IsAmong n (map number xs) → (x : A) × IsAmong x xs × (number x ≡ n)
among_numbers number n [] is = absurd is
among_numbers number n (x ∷ xs) (inl same) = (x, inl refl, sym same)
among_numbers number n (x ∷ xs) (inr later) = let rest = among_numbers number n xs later in (rest.0, inr rest.1, rest.2)

-- some of them have these numbers, in this order
with_first : {A : Type 0} (number : A → ℕ) (xs : List A) (n : ℕ) (ns : List ℕ) → (x : A) × IsAmong x xs × (number x ≡ n) → (some : List A) × (map number some ≡ ns) × ((x : A) → IsAmong x some → IsAmong x xs)
    → (some : List A) × (map number some ≡ n ∷ ns) × ((x : A) → IsAmong x some → IsAmong x xs)
with_first {A = A} number xs n ns first later =
    (first.0 ∷ later.0, ap (λ m. m ∷ map number later.0) first.2 ∙ ap (λ ms. n ∷ ms) later.1, by_place)
  where
    by_place : (x : A) → IsAmong x (first.0 ∷ later.0) → IsAmong x xs
    by_place x (inl same) = subst (λ y. IsAmong y xs) (sym same) first.1
    by_place x (inr is) = later.2 x is

pub some_of : {A : Type 0} (number : A → ℕ) (xs : List A) (ns : List ℕ) → ((n : ℕ) → IsAmong n ns → IsAmong n (map number xs))
    → (some : List A) × (map number some ≡ ns) × ((x : A) → IsAmong x some → IsAmong x xs)
some_of number xs [] each = ([], refl, λ x is. absurd is)
some_of number xs (n ∷ ns) each = with_first number xs n ns (among_numbers number n xs (each n (inl refl))) (some_of number xs ns (λ m is. each m (inr is)))
