-- Two lists of files with the same names, of which both lose, change or rename the file of a name.
use Rattle.std.proofs.Common.{◌≡◌, ℕ, Bool, true, false, not, cond, List, [], ◌∷◌, Option, Some, None, option_map, refl, sym, ap, subst, ◌∙◌}
use Rattle.std.proofs.lemmas.Bool.{both_ways}
use Rattle.std.proofs.lemmas.Slice.Eq.{bytes_eq-Decides}
use Rattle.std.specs.Bool.{Decides}
use Rattle.std.specs.Str.{bytes_eq}
use Rattle.nvm_model.specs.Listing.{put_file, is_named, file_of, without_file, change_file, put_some, rename_file, AreAlike}
use Rattle.nvm_model.proofs.AlikeLemmas.{alike-found, alike-missing, alike-put}

pub alike-without : {A B : Type 0} (name : A → List ℕ) (other : B → List ℕ) (R : A → B → Type 0) (text : List ℕ) (xs : List A) (ys : List B)
    → AreAlike name other R xs ys → AreAlike name other R (without_file name text xs) (without_file other text ys)
alike-without name other R text [] [] alike = tt
alike-without name other R text [] (y ∷ ys) alike = absurd alike
alike-without name other R text (x ∷ xs) [] alike = absurd alike
alike-without name other R text (x ∷ xs) (y ∷ ys) alike = by_test (is_named name text x) (is_named other text y) tests (alike-without name other R text xs ys alike.2)
  where
    tests : is_named name text x ≡ is_named other text y
    tests = ap (λ n. bytes_eq n text) alike.0

    by_test : (s t : Bool) → s ≡ t
        → AreAlike name other R (without_file name text xs) (without_file other text ys)
        → AreAlike name other R (cond (not s) (x ∷ without_file name text xs) (without_file name text xs))
        (cond (not t) (y ∷ without_file other text ys) (without_file other text ys))
    by_test true true same rest = rest
    by_test true false same rest = cc
    by_test false true same rest = cc
    by_test false false same rest = (alike.0, alike.1, rest)

-- the file of a name changed in both, and the others
pub alike-change : {A B : Type 0} (name : A → List ℕ) (other : B → List ℕ) (R S : A → B → Type 0) (text : List ℕ) (f : A → A) (g : B → B) (xs : List A) (ys : List B)
    → ((x : A) (y : B) → name x ≡ text → other y ≡ text → R x y → (name (f x) ≡ other (g y)) × S (f x) (g y))
    → ((x : A) (y : B) → (name x ≡ text → ⊥) → name x ≡ other y → R x y → S x y)
    → AreAlike name other R xs ys → AreAlike name other S (change_file name text f xs) (change_file other text g ys)
alike-change name other R S text f g [] [] here beside alike = tt
alike-change name other R S text f g [] (y ∷ ys) here beside alike = absurd alike
alike-change name other R S text f g (x ∷ xs) [] here beside alike = absurd alike
alike-change name other R S text f g (x ∷ xs) (y ∷ ys) here beside alike =
    by_test (is_named name text x) (is_named other text y) tests (bytes_eq-Decides (name x) text)
    (alike-change name other R S text f g xs ys here beside alike.2)
  where
    tests : is_named name text x ≡ is_named other text y
    tests = ap (λ n. bytes_eq n text) alike.0

    by_test : (s t : Bool) → s ≡ t → Decides s (name x ≡ text)
        → AreAlike name other S (change_file name text f xs) (change_file other text g ys)
        → AreAlike name other S (cond s (f x) x ∷ change_file name text f xs) (cond t (g y) y ∷ change_file other text g ys)
    by_test true true same tells rest =
        let both = here x y (tells.0 refl) (sym alike.0 ∙ tells.0 refl) alike.1 in (both.0, both.1, rest)
    by_test true false same tells rest = cc
    by_test false true same tells rest = cc
    by_test false false same tells rest = (alike.0, beside x y (λ is. both_ways false refl (tells.1 is)) alike.0 alike.1, rest)

-- the file of a name changed and put elsewhere in both
pub alike-rename : {A B : Type 0} (name : A → List ℕ) (other : B → List ℕ) (R : A → B → Type 0) (text : List ℕ) (f : A → A) (g : B → B) (xs : List A) (ys : List B)
    → ((x : A) (y : B) → R x y → (name (f x) ≡ other (g y)) × R (f x) (g y))
    → AreAlike name other R xs ys → AreAlike name other R (rename_file name text f xs) (rename_file other text g ys)
alike-rename {A} {B} name other R text f g xs ys keeps alike = by_found (file_of name text xs) refl
  where
    rest : AreAlike name other R (without_file name text xs) (without_file other text ys)
    rest = alike-without name other R text xs ys alike

    by_found : (o : Option A) → file_of name text xs ≡ o
        → AreAlike name other R (put_some name (option_map f (file_of name text xs)) (without_file name text xs))
        (put_some other (option_map g (file_of other text ys)) (without_file other text ys))
    by_found None none =
        subst (λ (o : Option A). AreAlike name other R (put_some name (option_map f o) (without_file name text xs)) (rename_file other text g ys)) (sym none)
        (subst (λ (o : Option B). AreAlike name other R (without_file name text xs) (put_some other (option_map g o) (without_file other text ys)))
        (sym (alike-missing name other R text xs ys alike none)) rest)
    by_found (Some x) is =
        let found = alike-found name other R text xs ys alike x is in
        let kept = keeps x found.0 found.3 in
        subst (λ (o : Option A). AreAlike name other R (put_some name (option_map f o) (without_file name text xs)) (rename_file other text g ys)) (sym is)
        (subst (λ (o : Option B). AreAlike name other R (put_file name (f x) (without_file name text xs)) (put_some other (option_map g o) (without_file other text ys)))
        (sym found.1) (alike-put name other R (f x) (g found.0) (without_file name text xs) (without_file other text ys) kept.0 kept.1 rest))
