-- Lists whose items are each one of two.
use Rattle.std.proofs.Common.{◌≡◌, ◌⊎◌, ◌+◌, ◌-◌, ◌≤◌, inl, inr, ℕ, zero, suc, List, [], ◌∷◌, ◌++◌, length, slice_get, drop, refl, sym, ap, ◌∙◌, subst, arith}
use Rattle.nvm_model.specs.Numbered.{AreMixed, list_from}
use Rattle.nvm_model.proofs.NumberedLemmas.{length-list_from, list_from-append}

module _ {A : Type 0} where
  pub mixed-none : (one other : List A) → AreMixed A one other one
  mixed-none one other = record { length = refl; each = λ i. inl refl }

  -- a front part is that of the other, the rest as it was
  length-front : (done one : List A) → length done ≤ length one → length (done ++ drop (length done) one) ≡ length one
  length-front [] one fits = refl
  length-front (d ∷ ds) [] fits = absurd (omega (arith, fits))
  length-front (d ∷ ds) (o ∷ os) fits = ap suc (length-front ds os (omega (arith, fits)))

  each-front : (done rest one : List A) → length done ≤ length one → (i : ℕ)
      → (slice_get (done ++ drop (length done) one) i ≡ slice_get one i) ⊎ (slice_get (done ++ drop (length done) one) i ≡ slice_get (done ++ rest) i)
  each-front [] rest one fits i = inl refl
  each-front (d ∷ ds) rest [] fits i = absurd (omega (arith, fits))
  each-front (d ∷ ds) rest (o ∷ os) fits zero = inr refl
  each-front (d ∷ ds) rest (o ∷ os) fits (suc i) = each-front ds rest os (omega (arith, fits)) i

  pub mixed-front : (n : ℕ) (done rest one other mixed : List A) → length done ≡ n → n ≤ length one → other ≡ done ++ rest → mixed ≡ done ++ drop n one → AreMixed A one other mixed
  mixed-front n done rest one other mixed size fits whole is =
      let now : mixed ≡ done ++ drop (length done) one = is ∙ ap (λ k. done ++ drop k one) (sym size) in
      let small : length done ≤ length one = omega (arith, size, fits) in
      subst (λ xs. AreMixed A one xs mixed) (sym whole)
      (subst (AreMixed A one (done ++ rest)) (sym now) (record { length = length-front done one small; each = each-front done rest one small }))

  -- between two lists that are mixed of these
  pub mixed-between : (one other a b mixed : List A) → AreMixed A one other a → AreMixed A one other b → AreMixed A a b mixed → AreMixed A one other mixed
  mixed-between one other a b mixed before after h = record {
    length = h.length ∙ before.length;
    each = λ i. elim (h.each i) [
      | inl is ↦ elim (before.each i) [ inl was ↦ inl (is ∙ was) | inr was ↦ inr (is ∙ was) ]
      | inr is ↦ elim (after.each i) [ inl was ↦ inl (is ∙ was) | inr was ↦ inr (is ∙ was) ]
    ];
  }

  -- a part of a longer list
  each-back : (one other mixed back : List A) → length other ≡ length one → length mixed ≡ length one
      → ((i : ℕ) → (slice_get mixed i ≡ slice_get one i) ⊎ (slice_get mixed i ≡ slice_get other i))
      → (i : ℕ) → (slice_get (mixed ++ back) i ≡ slice_get (one ++ back) i) ⊎ (slice_get (mixed ++ back) i ≡ slice_get (other ++ back) i)
  each-back [] other [] back same all h i = inl refl
  each-back [] other (x ∷ xs) back same all h i = absurd (omega (arith, all))
  each-back (o ∷ os) other [] back same all h i = absurd (omega (arith, all))
  each-back (o ∷ os) [] (x ∷ xs) back same all h i = absurd (omega (arith, same))
  each-back (o ∷ os) (p ∷ ps) (x ∷ xs) back same all h zero = h zero
  each-back (o ∷ os) (p ∷ ps) (x ∷ xs) back same all h (suc i) = each-back os ps xs back (omega (arith, same)) (omega (arith, all)) (λ j. h (suc j)) i

  length-back : (one mixed back : List A) → length mixed ≡ length one → length (mixed ++ back) ≡ length (one ++ back)
  length-back [] [] back all = refl
  length-back [] (x ∷ xs) back all = absurd (omega (arith, all))
  length-back (o ∷ os) [] back all = absurd (omega (arith, all))
  length-back (o ∷ os) (x ∷ xs) back all = ap suc (length-back os xs back (omega (arith, all)))

  one_more : (x : A) (one other mixed : List A) → ((i : ℕ) → (slice_get mixed i ≡ slice_get one i) ⊎ (slice_get mixed i ≡ slice_get other i))
      → (i : ℕ) → (slice_get (x ∷ mixed) i ≡ slice_get (x ∷ one) i) ⊎ (slice_get (x ∷ mixed) i ≡ slice_get (x ∷ other) i)
  one_more x one other mixed h zero = inl refl
  one_more x one other mixed h (suc i) = h i

  pub mixed-part : (front one other mixed back : List A) → length other ≡ length one → AreMixed A one other mixed
      → AreMixed A (front ++ (one ++ back)) (front ++ (other ++ back)) (front ++ (mixed ++ back))
  mixed-part [] one other mixed back same h = record { length = length-back one mixed back h.length; each = each-back one other mixed back same h.length h.each }
  mixed-part (f ∷ fs) one other mixed back same h =
      let rest = mixed-part fs one other mixed back same h in
      record { length = ap suc rest.length; each = one_more f (fs ++ (one ++ back)) (fs ++ (other ++ back)) (fs ++ (mixed ++ back)) rest.each }

-- a buffer that is filled from its front on
pub mixed-filled : (f : ℕ → ℕ) (start n len : ℕ) (s a : List ℕ) → n ≤ len → length s ≡ len → a ≡ list_from f start n ++ drop n s → AreMixed ℕ s (list_from f start len) a
mixed-filled f start n len s a few size is =
    let total : len ≡ n + (len - n) = omega (arith, few) in
    mixed-front n (list_from f start n) (list_from f (start + n) (len - n)) s _ a (length-list_from f start n) (omega (arith, few, size))
    (ap (list_from f start) total ∙ list_from-append f start n (len - n)) is
