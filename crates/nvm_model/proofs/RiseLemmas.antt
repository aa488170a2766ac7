-- The names of the files in slots rise once they are in order.
use Rattle.std.proofs.Common.{◌≡◌, ℕ, zero, suc, true, false, not, List, [], ◌∷◌, Option, Some, None, refl, sym, ap, ◌∙◌, inl, inr, arith}
use Rattle.std.proofs.lemmas.Bool.{cases_Bool, or_parts, and_parts, and_from, both_ways}
use Rattle.std.specs.List.{list_all}
use Rattle.nvm_model.specs.Listing.{is_before, rises, put_file, in_order, is_named, has_file, AreApart}
use Rattle.nvm_model.proofs.OrderLemmas.{before-between, before-other, put-first, put-later}
use Rattle.nvm_model.proofs.FileLemmas.{named-is}
use Rattle.nvm_model.proofs.SlotLemmas.{has_file-none}

after-through : {A : Type 0} (name : A → List ℕ) (x y : A) (zs : List A) → is_before (name x) (name y) ≡ true
    → list_all (λ z. is_before (name y) (name z)) zs ≡ true → list_all (λ z. is_before (name x) (name z)) zs ≡ true
after-through name x y [] first all = refl
after-through name x y (z ∷ zs) first all =
    let parts = and_parts (is_before (name y) (name z)) _ all in
    and_from (is_before (name x) (name z)) _ (before-between (name x) (name y) (name z) first parts.0) (after-through name x y zs first parts.1)

after-put : {A : Type 0} (name : A → List ℕ) (x y : A) (zs : List A) → is_before (name y) (name x) ≡ true
    → list_all (λ z. is_before (name y) (name z)) zs ≡ true → list_all (λ z. is_before (name y) (name z)) (put_file name x zs) ≡ true
after-put name x y [] first all = and_from (is_before (name y) (name x)) true first refl
after-put name x y (z ∷ zs) first all =
    elim (cases_Bool (is_before (name x) (name z))) [
      | inl low ↦
          ap (list_all (λ v. is_before (name y) (name v))) (put-first name x z zs low) ∙ and_from (is_before (name y) (name x)) _ first all
      | inr high ↦
          let parts = and_parts (is_before (name y) (name z)) _ all in
          ap (list_all (λ v. is_before (name y) (name v))) (put-later name x z zs high)
          ∙ and_from (is_before (name y) (name z)) _ parts.0 (after-put name x y zs first parts.1)
    ]

pub rises-put : {A : Type 0} (name : A → List ℕ) (x : A) (ys : List A) → has_file name (name x) ys ≡ false → rises name ys ≡ true
    → rises name (put_file name x ys) ≡ true
rises-put name x [] none up = refl
rises-put name x (y ∷ ys) none up =
    elim (cases_Bool (is_before (name x) (name y))) [
      | inl first ↦
          ap (rises name) (put-first name x y ys first)
          ∙ and_from _ (rises name (y ∷ ys)) (and_from (is_before (name x) (name y)) _ first (after-through name x y ys first rest.0)) up
      | inr later ↦
          let back : is_before (name y) (name x) ≡ true = before-other (name x) (name y) apart ∙ ap not later in
          ap (rises name) (put-later name x y ys later)
          ∙ and_from _ (rises name (put_file name x ys)) (after-put name x y ys back rest.0) (rises-put name x ys parts.1 rest.1)
    ]
  where
    parts : (is_named name (name x) y ≡ false) × (has_file name (name x) ys ≡ false)
    parts = or_parts (is_named name (name x) y) (has_file name (name x) ys) none

    rest : (list_all (λ z. is_before (name y) (name z)) ys ≡ true) × (rises name ys ≡ true)
    rest = and_parts _ (rises name ys) up

    apart : name x ≡ name y → ⊥
    apart same = absurd (both_ways (is_named name (name x) y) parts.0 (named-is name (name x) y (sym same)))

-- the names rise
pub rises-in_order : {A : Type 0} (name : A → List ℕ) (slots : List (Option A)) → AreApart name slots → rises name (in_order name slots) ≡ true
rises-in_order name [] apart = refl
rises-in_order name (None ∷ slots) apart =
    rises-in_order name slots (λ i j x y one two same. let e : suc i ≡ suc j = apart (suc i) (suc j) x y one two same in omega (arith, e))
rises-in_order name (Some x ∷ slots) apart =
    rises-put name x (in_order name slots)
    (has_file-none name (name x) slots (λ j y is same. let e : zero ≡ suc j = apart zero (suc j) x y refl is (sym same) in omega (arith, e)))
    (rises-in_order name slots (λ i j a b one two same. let e : suc i ≡ suc j = apart (suc i) (suc j) a b one two same in omega (arith, e)))
