-- The order of names, and files put into a list by it.
use Rattle.std.proofs.Common.{◌≡◌, ℕ, true, false, not, List, [], ◌∷◌, Less, Equal, Greater, refl, sym, ap, ◌∙◌, ◌⊎◌, inl, inr}
use Rattle.std.specs.declared.cmp.Ordering.{Ordering}
use Rattle.std.proofs.lemmas.Bool.{cond-true, cond-false, cases_Bool}
use Rattle.std.proofs.lemmas.Cmp.{nat_list_cmp_total, tied_itself}
use Rattle.std.proofs.lemmas.Map.Text.{is_eq-slice_cmp}
use Rattle.std.proofs.lemmas.Slice.Eq.{bytes_eq-Decides}
use Rattle.std.specs.Cmp.Lexicographic.{slice_cmp}
use Rattle.std.specs.Ordering.{is_lt, is_eq, nat_cmp, ordering_reverse}
use Rattle.nvm_model.specs.Listing.{is_before, put_file}

less-is : (o : Ordering) → is_lt o ≡ true → o ≡ Less
less-is Less h = refl
less-is Equal h = cc
less-is Greater h = cc

pub before-itself : (a : List ℕ) → is_before a a ≡ false
before-itself a = ap is_lt (tied_itself nat_list_cmp_total a)

pub before-back : (a b : List ℕ) → is_before a b ≡ true → is_before b a ≡ false
before-back a b h = ap is_lt (nat_list_cmp_total.antisymm b a ∙ ap ordering_reverse (less-is (slice_cmp nat_cmp a b) h))

pub before-between : (a b c : List ℕ) → is_before a b ≡ true → is_before b c ≡ true → is_before a c ≡ true
before-between a b c h k = ap is_lt (nat_list_cmp_total.trans a b c (less-is (slice_cmp nat_cmp a b) h) (less-is (slice_cmp nat_cmp b c) k))

-- one of two names comes first
pub before-other : (a b : List ℕ) → (a ≡ b → ⊥) → is_before b a ≡ not (is_before a b)
before-other a b apart = ap is_lt (nat_list_cmp_total.antisymm b a) ∙ by_order (slice_cmp nat_cmp a b) refl
  where
    by_order : (o : Ordering) → slice_cmp nat_cmp a b ≡ o → is_lt (ordering_reverse o) ≡ not (is_lt o)
    by_order Less is = refl
    by_order Equal is = absurd (apart ((bytes_eq-Decides a b).0 (sym (is_eq-slice_cmp a b) ∙ ap is_eq is)))
    by_order Greater is = refl

pub put-first : {A : Type 0} (name : A → List ℕ) (x y : A) (ys : List A) → is_before (name x) (name y) ≡ true
    → put_file name x (y ∷ ys) ≡ x ∷ y ∷ ys
put-first name x y ys h = cond-true (is_before (name x) (name y)) _ _ h

pub put-later : {A : Type 0} (name : A → List ℕ) (x y : A) (ys : List A) → is_before (name x) (name y) ≡ false
    → put_file name x (y ∷ ys) ≡ y ∷ put_file name x ys
put-later name x y ys h = cond-false (is_before (name x) (name y)) _ _ h

-- two files are put in either order
put-put_before : {A : Type 0} (name : A → List ℕ) (x y : A) (zs : List A) → is_before (name x) (name y) ≡ true
    → put_file name x (put_file name y zs) ≡ put_file name y (put_file name x zs)
put-put_before name x y [] first = put-first name x y [] first ∙ sym (put-later name y x [] (before-back (name x) (name y) first))
put-put_before name x y (z ∷ zs) first =
    elim (cases_Bool (is_before (name y) (name z))) [
      | inl low ↦
          let lower : is_before (name x) (name z) ≡ true = before-between (name x) (name y) (name z) first low in
          ap (put_file name x) (put-first name y z zs low) ∙ put-first name x y (z ∷ zs) first
          ∙ sym (ap (put_file name y) (put-first name x z zs lower) ∙ put-later name y x (z ∷ zs) back ∙ ap (λ l. x ∷ l) (put-first name y z zs low))
      | inr high ↦ by_first high (cases_Bool (is_before (name x) (name z))) (put-put_before name x y zs first)
    ]
  where
    back : is_before (name y) (name x) ≡ false
    back = before-back (name x) (name y) first

    by_first : is_before (name y) (name z) ≡ false → (is_before (name x) (name z) ≡ true) ⊎ (is_before (name x) (name z) ≡ false)
        → put_file name x (put_file name y zs) ≡ put_file name y (put_file name x zs)
        → put_file name x (put_file name y (z ∷ zs)) ≡ put_file name y (put_file name x (z ∷ zs))
    by_first high (inl low) rest =
        ap (put_file name x) (put-later name y z zs high) ∙ put-first name x z (put_file name y zs) low
        ∙ sym (ap (put_file name y) (put-first name x z zs low) ∙ put-later name y x (z ∷ zs) back ∙ ap (λ l. x ∷ l) (put-later name y z zs high))
    by_first high (inr up) rest =
        ap (put_file name x) (put-later name y z zs high) ∙ put-later name x z (put_file name y zs) up ∙ ap (λ l. z ∷ l) rest
        ∙ sym (ap (put_file name y) (put-later name x z zs up) ∙ put-later name y z (put_file name x zs) high)

pub put-put : {A : Type 0} (name : A → List ℕ) (x y : A) (zs : List A) → (name x ≡ name y → ⊥)
    → put_file name x (put_file name y zs) ≡ put_file name y (put_file name x zs)
put-put name x y zs apart =
    elim (cases_Bool (is_before (name x) (name y))) [
      | inl first ↦ put-put_before name x y zs first
      | inr later ↦ sym (put-put_before name y x zs (before-other (name x) (name y) apart ∙ ap not later))
    ]
