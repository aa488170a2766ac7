-- Two lists of files with the same names, as both change alike.
use Rattle.std.proofs.Common.{◌≡◌, ℕ, suc, true, List, [], ◌∷◌, map, length, Some, None, refl, sym, ap, subst, ◌∙◌, inl, inr}
use Rattle.std.proofs.lemmas.Bool.{cases_Bool, cond-true, cond-false}
use Rattle.std.specs.List.{Contains}
use Rattle.std.specs.Str.{bytes_eq}
use Rattle.nvm_model.specs.Listing.{is_before, put_file, is_named, has_file, file_of, AreAlike}
use Rattle.nvm_model.proofs.ListedLemmas.{contains-here, contains-later}
use Rattle.nvm_model.proofs.OrderLemmas.{put-first, put-later}

pub alike-length : {A B : Type 0} (name : A → List ℕ) (other : B → List ℕ) (R : A → B → Type 0) (xs : List A) (ys : List B)
    → AreAlike name other R xs ys → length xs ≡ length ys
alike-length name other R [] [] alike = refl
alike-length name other R [] (y ∷ ys) alike = absurd alike
alike-length name other R (x ∷ xs) [] alike = absurd alike
alike-length name other R (x ∷ xs) (y ∷ ys) alike = ap suc (alike-length name other R xs ys alike.2)

-- another relation, where it follows
pub alike-then : {A B : Type 0} (name : A → List ℕ) (other : B → List ℕ) (R S : A → B → Type 0) (xs : List A) (ys : List B)
    → ((x : A) (y : B) → name x ≡ other y → R x y → S x y) → AreAlike name other R xs ys → AreAlike name other S xs ys
alike-then name other R S [] [] then alike = tt
alike-then name other R S [] (y ∷ ys) then alike = absurd alike
alike-then name other R S (x ∷ xs) [] then alike = absurd alike
alike-then name other R S (x ∷ xs) (y ∷ ys) then alike = (alike.0, then x y alike.0 alike.1, alike-then name other R S xs ys then alike.2)

-- the same of files that are among the first ones
pub alike-among : {A B : Type 0} (name : A → List ℕ) (other : B → List ℕ) (R S : A → B → Type 0) (xs : List A) (ys : List B)
    → ((x : A) (y : B) → Contains xs x → name x ≡ other y → R x y → S x y) → AreAlike name other R xs ys → AreAlike name other S xs ys
alike-among name other R S [] [] then alike = tt
alike-among name other R S [] (y ∷ ys) then alike = absurd alike
alike-among name other R S (x ∷ xs) [] then alike = absurd alike
alike-among name other R S (x ∷ xs) (y ∷ ys) then alike = (
  alike.0,
  then x y (contains-here x xs x refl) alike.0 alike.1,
  alike-among name other R S xs ys (λ a b has. then a b (contains-later x xs a has)) alike.2,
)

-- each file and what is made of it, of those that are among the first ones
pub alike-map_among : {A B : Type 0} (name : A → List ℕ) (other : B → List ℕ) (R : A → B → Type 0) (f : A → B) (xs : List A)
    → ((x : A) → other (f x) ≡ name x) → ((x : A) → Contains xs x → R x (f x)) → AreAlike name other R xs (map f xs)
alike-map_among name other R f [] names holds = tt
alike-map_among name other R f (x ∷ xs) names holds =
    (sym (names x), holds x (contains-here x xs x refl), alike-map_among name other R f xs names (λ a has. holds a (contains-later x xs a has)))

-- each file and what is made of it
pub alike-map : {A B : Type 0} (name : A → List ℕ) (other : B → List ℕ) (R : A → B → Type 0) (f : A → B) (xs : List A)
    → ((x : A) → other (f x) ≡ name x) → ((x : A) → R x (f x)) → AreAlike name other R xs (map f xs)
alike-map name other R f [] names holds = tt
alike-map name other R f (x ∷ xs) names holds = (sym (names x), holds x, alike-map name other R f xs names holds)

pub alike-put : {A B : Type 0} (name : A → List ℕ) (other : B → List ℕ) (R : A → B → Type 0) (x : A) (y : B) (xs : List A) (ys : List B)
    → name x ≡ other y → R x y → AreAlike name other R xs ys → AreAlike name other R (put_file name x xs) (put_file other y ys)
alike-put name other R x y [] [] same holds alike = (same, holds, tt)
alike-put name other R x y [] (b ∷ ys) same holds alike = absurd alike
alike-put name other R x y (a ∷ xs) [] same holds alike = absurd alike
alike-put name other R x y (a ∷ xs) (b ∷ ys) same holds alike =
    elim (cases_Bool (is_before (name x) (name a))) [
      | inl first ↦
          subst (λ l. AreAlike name other R l (put_file other y (b ∷ ys))) (sym (put-first name x a xs first))
          (subst (AreAlike name other R (x ∷ a ∷ xs)) (sym (put-first other y b ys (sym tests ∙ first))) (same, holds, alike))
      | inr later ↦
          subst (λ l. AreAlike name other R l (put_file other y (b ∷ ys))) (sym (put-later name x a xs later))
          (subst (AreAlike name other R (a ∷ put_file name x xs)) (sym (put-later other y b ys (sym tests ∙ later)))
          (alike.0, alike.1, alike-put name other R x y xs ys same holds alike.2))
    ]
  where
    tests : is_before (name x) (name a) ≡ is_before (other y) (other b)
    tests = ap (λ n. is_before n (name a)) same ∙ ap (is_before (other y)) alike.0

pub alike-has : {A B : Type 0} (name : A → List ℕ) (other : B → List ℕ) (R : A → B → Type 0) (text : List ℕ) (xs : List A) (ys : List B)
    → AreAlike name other R xs ys → has_file name text xs ≡ has_file other text ys
alike-has name other R text [] [] alike = refl
alike-has name other R text [] (y ∷ ys) alike = absurd alike
alike-has name other R text (x ∷ xs) [] alike = absurd alike
alike-has name other R text (x ∷ xs) (y ∷ ys) alike = let rest = alike-has name other R text xs ys alike.2 in rw (alike.0, rest) refl

-- the file of a name in both: none, or two that are related
pub alike-found : {A B : Type 0} (name : A → List ℕ) (other : B → List ℕ) (R : A → B → Type 0) (text : List ℕ) (xs : List A) (ys : List B)
    → AreAlike name other R xs ys → (x : A) → file_of name text xs ≡ Some x
    → (y : B) × (file_of other text ys ≡ Some y) × (name x ≡ other y) × R x y
alike-found name other R text [] [] alike x is = cc
alike-found name other R text [] (y ∷ ys) alike x is = absurd alike
alike-found name other R text (a ∷ xs) [] alike x is = absurd alike
alike-found name other R text (a ∷ xs) (b ∷ ys) alike x is =
    elim (cases_Bool (is_named name text a)) [
      | inl named ↦
          let e : a ≡ x = here named in
          (b, cond-true (is_named other text b) _ _ (sym tests ∙ named), sym (ap name e) ∙ alike.0, subst (λ v. R v b) e alike.1)
      | inr skipped ↦
          let found = alike-found name other R text xs ys alike.2 x (sym (cond-false (is_named name text a) _ _ skipped) ∙ is) in
          (found.0, cond-false (is_named other text b) _ _ (sym tests ∙ skipped) ∙ found.1, found.2, found.3)
    ]
  where
    tests : is_named name text a ≡ is_named other text b
    tests = ap (λ n. bytes_eq n text) alike.0

    here : is_named name text a ≡ true → a ≡ x
    here named = let e : Some a ≡ Some x = sym (cond-true (is_named name text a) _ _ named) ∙ is in cc

pub alike-missing : {A B : Type 0} (name : A → List ℕ) (other : B → List ℕ) (R : A → B → Type 0) (text : List ℕ) (xs : List A) (ys : List B)
    → AreAlike name other R xs ys → file_of name text xs ≡ None → file_of other text ys ≡ None
alike-missing name other R text [] [] alike none = refl
alike-missing name other R text [] (y ∷ ys) alike none = absurd alike
alike-missing name other R text (x ∷ xs) [] alike none = absurd alike
alike-missing name other R text (x ∷ xs) (y ∷ ys) alike none =
    elim (cases_Bool (is_named name text x)) [
      | inl named ↦ let e : Some x ≡ None = sym (cond-true (is_named name text x) _ _ named) ∙ none in cc
      | inr skipped ↦
          cond-false (is_named other text y) _ _ (sym (ap (λ n. bytes_eq n text) alike.0) ∙ skipped)
          ∙ alike-missing name other R text xs ys alike.2 (sym (cond-false (is_named name text x) _ _ skipped) ∙ none)
    ]
