-- Each item is listed once, and none is lost.
use Rattle.std.proofs.Common.{◌≡◌, inl, inr, ℕ, ◌==◌, ◌||◌, Bool, true, false, cond, List, [], ◌∷◌, ◌++◌, refl, sym, ap, ◌∙◌}
use Rattle.std.specs.List.{list_any}
use Rattle.std.proofs.lemmas.Bool.{eqb-true, or_cases, or_left, or_right}
use Rattle.std.proofs.lemmas.List.Folds.{list_any-append}
use Rattle.std.proofs.lemmas.Slice.Eq.{bytes_eq-Decides}
use Rattle.nvm_model.specs.Cell.{Cell}
use Rattle.block_sights.specs.Sights.{Sight}
use Rattle.block_sights.specs.Sights.Sight.{Whole, Scar, BadLine}
use Rattle.cut_places.proofs.SightsSeen.PassLemmas.{EachUnit}
use Rattle.value_tables.specs.Values.{history_of, values_with, with_all, with_one}
use Rattle.cut_places.specs.SightsSeen.BlockTelling.{same_sight}

or_none : (a b : Bool) → (a || (b || false)) ≡ (a || b)
or_none true b = refl
or_none false true = refl
or_none false false = refl

pub or_apart : (a b c : Bool) → ((a || b) || c) ≡ (a || (b || c))
or_apart true b c = refl
or_apart false b c = refl

or_zero : (a : Bool) → (a || false) ≡ a
or_zero true = refl
or_zero false = refl

module _ {A : Type 0} (same : A → A → Bool) (f : A → Bool) (respects : (x y : A) → same x y ≡ true → f x ≡ f y) where
  -- what passes of an item passes of one that is the same
  passes_there : (x : A) (found : List A) → list_any (same x) found ≡ true → f x ≡ true → list_any f found ≡ true
  passes_there x [] there passes = cc there
  passes_there x (y ∷ found) there passes = elim (or_cases (same x y) (list_any (same x) found) there) as (λ _. list_any f (y ∷ found) ≡ true) [
    | inl here ↦ or_left (f y) (list_any f found) (sym (respects x y here) ∙ passes)
    | inr later ↦ or_right (f y) (list_any f found) (passes_there x found later passes)
  ]

  any_one : (found : List A) (x : A) → list_any f (with_one same found x) ≡ (list_any f found || f x)
  any_one found x = by_test (list_any (same x) found) refl
    where
      there : (b c : Bool) → (b ≡ true → c ≡ true) → c ≡ (c || b)
      there true c is = is refl ∙ sym (ap (λ d. d || true) (is refl))
      there false c is = sym (or_zero c)

      by_test : (b : Bool) → list_any (same x) found ≡ b → list_any f (cond b found (found ++ x ∷ [])) ≡ (list_any f found || f x)
      by_test true is = there (f x) (list_any f found) (λ passes. passes_there x found is passes)
      by_test false is = list_any-append f found (x ∷ []) ∙ or_none (list_any f found) (f x)

  pub any_all : (found xs : List A) → list_any f (with_all same found xs) ≡ (list_any f found || list_any f xs)
  any_all found [] = sym (or_zero (list_any f found))
  any_all found (x ∷ xs) =
      any_all (with_one same found x) xs ∙ ap (λ b. b || list_any f xs) (any_one found x) ∙ or_apart (list_any f found) (f x) (list_any f xs)

-- of the values of a word
pub any_value : (f : ℕ → Bool) (w : ℕ) (found : List ℕ) (cells : List Cell)
    → list_any f (values_with w found cells) ≡ (list_any f found || list_any (λ cell. list_any f (history_of w cell)) cells)
any_value f w found [] = sym (or_zero (list_any f found))
any_value f w found (cell ∷ cells) =
    any_value f w (with_all (λ a b. a == b) found (history_of w cell)) cells
    ∙ ap (λ b. b || list_any (λ c. list_any f (history_of w c)) cells) (any_all (λ a b. a == b) f (λ x y is. ap f (eqb-true x y is)) found (history_of w cell))
    ∙ or_apart (list_any f found) (list_any f (history_of w cell)) (list_any (λ c. list_any f (history_of w c)) cells)

-- reads see the same of what is the same
pub same_is : (x y : Sight) → same_sight x y ≡ true → x ≡ y
same_is (Whole bytes) (Whole others) is = ap Whole ((bytes_eq-Decides bytes others).0 is)
same_is (Whole bytes) Scar is = cc is
same_is (Whole bytes) (BadLine line) is = cc is
same_is Scar (Whole bytes) is = cc is
same_is Scar Scar is = refl
same_is Scar (BadLine line) is = cc is
same_is (BadLine line) (Whole bytes) is = cc is
same_is (BadLine line) Scar is = cc is
same_is (BadLine line) (BadLine other) is = ap BadLine (eqb-true line other is)

pub any_sight : (f : Sight → Bool) (sights : List Sight) → list_any f (with_all same_sight [] sights) ≡ list_any f sights
any_sight f sights = any_all same_sight f (λ x y is. ap f (same_is x y is)) [] sights

-- a test that is another one of these
pub any_of : {A : Type 0} (P : A → Type 0) (f g : A → Bool) (xs : List A) → EachUnit P xs → ((x : A) → P x → f x ≡ g x) → list_any f xs ≡ list_any g xs
any_of P f g [] each same = refl
any_of P f g (x ∷ xs) each same = ap (λ b. b || list_any f xs) (same x each.0) ∙ ap (λ b. g x || b) (any_of P f g xs each.1 same)
