-- Sums over files: the order in which they are listed doesn't matter.
use Rattle.std.proofs.Common.{◌≡◌, ℕ, zero, suc, ◌+◌, List, [], ◌∷◌, length, Option, Some, None, slice_get, sum_by, refl, sym, ap, ap₂, ◌∙◌, add-one, inl, inr, arith}
use Rattle.std.proofs.lemmas.Bool.{cases_Bool}
use Rattle.std.proofs.lemmas.List.Sums.{sum_by-cons}
use Rattle.nvm_model.specs.Listing.{is_before, put_file, in_order, AreAlike}
use Rattle.nvm_model.specs.Numbered.{list_from}
use Rattle.nvm_model.proofs.OrderLemmas.{put-first, put-later}

-- what a slot adds: nothing where it is free
abbrev pub of_slot : {A : Type 0} → (A → ℕ) → Option A → ℕ
of_slot f None = 0
of_slot f (Some x) = f x

nothing : (m n : ℕ) → m ≡ 0 + n → m ≡ n
nothing m n is = omega (arith, is)

swapped : (a b r s : ℕ) → s ≡ a + r → b + s ≡ a + (b + r)
swapped a b r s is = omega arith

sum-put : {A : Type 0} (name : A → List ℕ) (f : A → ℕ) (x : A) (ys : List A) → sum_by f (put_file name x ys) ≡ f x + sum_by f ys
sum-put name f x [] = sum_by-cons f x []
sum-put name f x (y ∷ ys) =
    elim (cases_Bool (is_before (name x) (name y))) [
      | inl first ↦ ap (sum_by f) (put-first name x y ys first) ∙ sum_by-cons f x (y ∷ ys)
      | inr later ↦
          ap (sum_by f) (put-later name x y ys later) ∙ sum_by-cons f y (put_file name x ys)
          ∙ swapped (f x) (f y) (sum_by f ys) (sum_by f (put_file name x ys)) (sum-put name f x ys)
          ∙ ap (λ n. f x + n) (sym (sum_by-cons f y ys))
    ]

pub sum-in_order : {A : Type 0} (name : A → List ℕ) (f : A → ℕ) (slots : List (Option A)) → sum_by f (in_order name slots) ≡ sum_by (of_slot f) slots
sum-in_order name f [] = refl
sum-in_order name f (None ∷ slots) = sum-in_order name f slots ∙ sym (nothing _ _ (sum_by-cons (of_slot f) None slots))
sum-in_order name f (Some x ∷ slots) =
    sum-put name f x (in_order name slots) ∙ ap (λ n. f x + n) (sum-in_order name f slots) ∙ sym (sum_by-cons (of_slot f) (Some x) slots)

-- two lists of which each item adds as much as its partner
pub sum-each : {A B : Type 0} (f : A → ℕ) (g : B → ℕ) (xs : List A) (ys : List B) → length xs ≡ length ys
    → ((i : ℕ) (x : A) (y : B) → slice_get xs i ≡ Some x → slice_get ys i ≡ Some y → f x ≡ g y) → sum_by f xs ≡ sum_by g ys
sum-each f g [] [] same each = refl
sum-each f g [] (y ∷ ys) same each = cc
sum-each f g (x ∷ xs) [] same each = cc
sum-each f g (x ∷ xs) (y ∷ ys) same each =
    let rest : length xs ≡ length ys = omega (arith, same) in
    sum_by-cons f x xs ∙ ap₂ (λ m n. m + n) (each zero x y refl refl) (sum-each f g xs ys rest (λ i. each (suc i))) ∙ sym (sum_by-cons g y ys)

pub sum-alike : {A B : Type 0} (name : A → List ℕ) (other : B → List ℕ) (R : A → B → Type 0) (f : A → ℕ) (g : B → ℕ) (xs : List A) (ys : List B)
    → ((x : A) (y : B) → R x y → f x ≡ g y) → AreAlike name other R xs ys → sum_by f xs ≡ sum_by g ys
sum-alike name other R f g [] [] adds alike = refl
sum-alike name other R f g [] (y ∷ ys) adds alike = absurd alike
sum-alike name other R f g (x ∷ xs) [] adds alike = absurd alike
sum-alike name other R f g (x ∷ xs) (y ∷ ys) adds alike =
    sum_by-cons f x xs ∙ ap₂ (λ m n. m + n) (adds x y alike.1) (sum-alike name other R f g xs ys adds alike.2) ∙ sym (sum_by-cons g y ys)

-- one number more
pub sum-next : {A : Type 0} (g : A → ℕ) (f : ℕ → A) (n count : ℕ) → sum_by g (list_from f n (count + 1)) ≡ sum_by g (list_from f n count) + g (f (n + count))
sum-next g f n count = ap (λ k. sum_by g (list_from f n k)) (add-one count) ∙ more n count
  where
    swap : (a : ℕ) → a + 0 ≡ 0 + a
    swap a = omega arith

    later : (a r s b : ℕ) → s ≡ r + b → a + s ≡ a + r + b
    later a r s b is = omega (arith, is)

    more : (n count : ℕ) → sum_by g (list_from f n (suc count)) ≡ sum_by g (list_from f n count) + g (f (n + count))
    more n zero = let e : n + 0 ≡ n = omega arith in sum_by-cons g (f n) [] ∙ swap (g (f n)) ∙ ap (λ k. 0 + g (f k)) (sym e)
    more n (suc count) =
        let e : suc n + count ≡ n + suc count = omega arith in
        sum_by-cons g (f n) (list_from f (suc n) (suc count))
        ∙ later (g (f n)) (sum_by g (list_from f (suc n) count)) (sum_by g (list_from f (suc n) (suc count))) (g (f (n + suc count)))
        (more (suc n) count ∙ ap (λ k. sum_by g (list_from f (suc n) count) + g (f k)) e)
        ∙ ap (λ k. k + g (f (n + suc count))) (sym (sum_by-cons g (f n) (list_from f (suc n) count)))
