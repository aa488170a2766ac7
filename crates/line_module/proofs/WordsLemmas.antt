-- Tests on the eight words of a line.
use Rattle.std.proofs.Common.{◌≡◌, inl, inr, ℕ, zero, suc, Bool, true, false, ◌<◌, ◌||◌, refl, sym, ◌∙◌, ap, arith}
use Rattle.std.proofs.lemmas.Bool.{cases_eq}
use Rattle.line_module.specs.Words.{any_below}

pub true_is_not_false : true ≡ false → ⊥
true_is_not_false e = cc

pub any_below-cong : (f g : ℕ → Bool) (n : ℕ) → ((w : ℕ) → w < n → f w ≡ g w) → any_below n f ≡ any_below n g
unfolding any_below
any_below-cong f g zero same = refl
any_below-cong f g (suc n) same =
    let rest = any_below-cong f g n (λ w below. same w (omega arith)) in
    let last = same n (omega arith) in
    (λ i. last i || rest i)

pub any_below-none : (f : ℕ → Bool) (n : ℕ) → ((w : ℕ) → w < n → f w ≡ false) → any_below n f ≡ false
unfolding any_below
any_below-none f zero none = refl
any_below-none f (suc n) none = ap (λ b. b || any_below n f) (none n (omega arith)) ∙ any_below-none f n (λ w below. none w (omega arith))

pub any_below-at : (f : ℕ → Bool) (n w : ℕ) → w < n → f w ≡ true → any_below n f ≡ true
unfolding any_below
any_below-at f zero w below is = absurd (omega arith)
any_below-at f (suc n) w below is =
    elim (cases_eq w n) as (λ _. (f n || any_below n f) ≡ true) [
      | inl last ↦ ap (λ b. b || any_below n f) (sym (ap f last) ∙ is)
      | inr other ↦ elim (f n) as (λ b. (b || any_below n f) ≡ true) [ true ↦ refl | false ↦ any_below-at f n w (omega arith) is ]
    ]

pub any_below-not : (f : ℕ → Bool) (n w : ℕ) → any_below n f ≡ false → w < n → f w ≡ false
any_below-not f n w none below = decide (f w) refl
  where
    decide : (b : Bool) → f w ≡ b → f w ≡ false
    decide false is = is
    decide true is = absurd (true_is_not_false (sym (any_below-at f n w below is) ∙ none))
