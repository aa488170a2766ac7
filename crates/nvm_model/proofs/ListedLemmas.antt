-- Each file in slots is listed once, and no other.
use Rattle.std.proofs.Common.{◌≡◌, ℕ, zero, suc, ◌+◌, ◌<◌, cond, List, [], ◌∷◌, length, Option, Some, None, is_some, count_by, slice_index_or, refl, sym, ap, subst, ◌∙◌, ◌⊎◌, inl, inr, arith}
use Rattle.std.proofs.lemmas.Bool.{cases_Bool}
use Rattle.std.proofs.lemmas.List.Recursion.{is_count_by}
use Rattle.std.specs.List.{Contains}
use Rattle.nvm_model.specs.Listing.{is_before, put_file, in_order}
use Rattle.nvm_model.proofs.OrderLemmas.{put-first, put-later}

pub contains-here : {A : Type 0} (x : A) (ys : List A) (z : A) → x ≡ z → Contains (x ∷ ys) z
contains-here x ys z is = (zero, omega arith, is)

pub contains-later : {A : Type 0} (y : A) (ys : List A) (z : A) → Contains ys z → Contains (y ∷ ys) z
contains-later y ys z has = (suc has.0, omega (arith, has.1), has.2)

contains-cases : {A : Type 0} (y : A) (ys : List A) (z : A) → Contains (y ∷ ys) z → (y ≡ z) ⊎ Contains ys z
contains-cases y ys z has = by_place has.0 has.1 has.2
  where
    by_place : (k : ℕ) → k < length (y ∷ ys) → slice_index_or (y ∷ ys) k z ≡ z → (y ≡ z) ⊎ Contains ys z
    by_place zero within is = inl is
    by_place (suc k) within is = inr (k, omega (arith, within), is)

contains-put : {A : Type 0} (name : A → List ℕ) (x : A) (ys : List A) (z : A) → (x ≡ z) ⊎ Contains ys z → Contains (put_file name x ys) z
contains-put name x [] z (inl is) = contains-here x [] z is
contains-put name x [] z (inr has) = absurd (omega (arith, has.1))
contains-put name x (y ∷ ys) z has =
    elim (cases_Bool (is_before (name x) (name y))) [
      | inl first ↦ subst (λ l. Contains l z) (sym (put-first name x y ys first)) (before has)
      | inr later ↦ subst (λ l. Contains l z) (sym (put-later name x y ys later)) (behind has (contains-put name x ys z))
    ]
  where
    before : (x ≡ z) ⊎ Contains (y ∷ ys) z → Contains (x ∷ y ∷ ys) z
    before (inl is) = contains-here x (y ∷ ys) z is
    before (inr more) = contains-later x (y ∷ ys) z more

    behind : (x ≡ z) ⊎ Contains (y ∷ ys) z → ((x ≡ z) ⊎ Contains ys z → Contains (put_file name x ys) z) → Contains (y ∷ put_file name x ys) z
    behind (inl is) rest = contains-later y (put_file name x ys) z (rest (inl is))
    behind (inr more) rest =
        elim (contains-cases y ys z more) [
          | inl is ↦ contains-here y (put_file name x ys) z is
          | inr later ↦ contains-later y (put_file name x ys) z (rest (inr later))
        ]

put-contains : {A : Type 0} (name : A → List ℕ) (x : A) (ys : List A) (z : A) → Contains (put_file name x ys) z → (x ≡ z) ⊎ Contains ys z
put-contains name x [] z has = contains-cases x [] z has
put-contains name x (y ∷ ys) z has =
    elim (cases_Bool (is_before (name x) (name y))) [
      | inl first ↦ contains-cases x (y ∷ ys) z (subst (λ l. Contains l z) (put-first name x y ys first) has)
      | inr later ↦ behind (subst (λ l. Contains l z) (put-later name x y ys later) has) (put-contains name x ys z)
    ]
  where
    behind : Contains (y ∷ put_file name x ys) z → (Contains (put_file name x ys) z → (x ≡ z) ⊎ Contains ys z) → (x ≡ z) ⊎ Contains (y ∷ ys) z
    behind more rest =
        elim (contains-cases y (put_file name x ys) z more) [
          | inl is ↦ inr (contains-here y ys z is)
          | inr later ↦ elim (rest later) [ inl is ↦ inl is | inr old ↦ inr (contains-later y ys z old) ]
        ]

pub in_order-contains : {A : Type 0} (name : A → List ℕ) (slots : List (Option A)) (z : A) → Contains (in_order name slots) z → Contains slots (Some z)
in_order-contains name [] z has = absurd (omega (arith, has.1))
in_order-contains name (None ∷ slots) z has = contains-later None slots (Some z) (in_order-contains name slots z has)
in_order-contains name (Some x ∷ slots) z has =
    elim (put-contains name x (in_order name slots) z has) [
      | inl is ↦ contains-here (Some x) slots (Some z) (ap (λ v. Some v) is)
      | inr rest ↦ contains-later (Some x) slots (Some z) (in_order-contains name slots z rest)
    ]

pub contains-in_order : {A : Type 0} (name : A → List ℕ) (slots : List (Option A)) (z : A) → Contains slots (Some z) → Contains (in_order name slots) z
contains-in_order name [] z has = absurd (omega (arith, has.1))
contains-in_order name (None ∷ slots) z has =
    elim (contains-cases None slots (Some z) has) [ inl is ↦ cc | inr rest ↦ contains-in_order name slots z rest ]
contains-in_order name (Some x ∷ slots) z has =
    elim (contains-cases (Some x) slots (Some z) has) [
      | inl is ↦ let e : x ≡ z = cc in contains-put name x (in_order name slots) z (inl e)
      | inr rest ↦ contains-put name x (in_order name slots) z (inr (contains-in_order name slots z rest))
    ]

length-put : {A : Type 0} (name : A → List ℕ) (x : A) (ys : List A) → length (put_file name x ys) ≡ suc (length ys)
length-put name x [] = refl
length-put name x (y ∷ ys) =
    elim (cases_Bool (is_before (name x) (name y))) [
      | inl first ↦ ap length (put-first name x y ys first)
      | inr later ↦ ap length (put-later name x y ys later) ∙ ap suc (length-put name x ys)
    ]

pub length-in_order : {A : Type 0} (name : A → List ℕ) (slots : List (Option A)) → length (in_order name slots) ≡ count_by is_some slots
length-in_order {A} name slots = is_count_by (λ (l : List (Option A)). length (in_order name l)) is_some refl each slots
  where
    each : (slot : Option A) (rest : List (Option A))
        → length (in_order name (slot ∷ rest)) ≡ cond (is_some slot) (1 + length (in_order name rest)) (length (in_order name rest))
    each None rest = refl
    each (Some x) rest = length-put name x (in_order name rest) ∙ omega arith
