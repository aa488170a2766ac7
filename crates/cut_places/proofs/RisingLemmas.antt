-- Files stay in order of name: where one is put, taken out, renamed, or changed under its name.
use Rattle.std.proofs.Common.{◌≡◌, ◌&&◌, ℕ, Bool, true, false, cond, not, Option, Some, None, option_map, List, [], ◌∷◌, refl, sym, ap, subst, ◌∙◌}
use Rattle.std.specs.Bool.{Decides}
use Rattle.std.specs.List.{list_all}
use Rattle.std.specs.Str.{bytes_eq}
use Rattle.std.proofs.lemmas.Bool.{and_from, and_parts, both_ways, or_from, or_parts}
use Rattle.std.proofs.lemmas.Slice.Eq.{bytes_eq-Decides}
use Rattle.nvm_model.specs.Listing.{AreAlike, change_file, file_of, has_file, is_before, is_named, put_some, rename_file, rises, without_file}
use Rattle.nvm_model.proofs.FileLemmas.{change-none}
use Rattle.nvm_model.proofs.AlikeLemmas.{alike-has, alike-then}
use Rattle.nvm_model.proofs.OrderLemmas.{before-itself}
use Rattle.nvm_model.proofs.RiseLemmas.{rises-put}

module _ {A : Type 0} (name : A → List ℕ) where
  abbrev all_behind : List ℕ → List A → Bool
  all_behind text files = list_all (λ y. is_before text (name y)) files

  behind_without : (text n : List ℕ) (files : List A) → all_behind n files ≡ true → all_behind n (without_file name text files) ≡ true
  behind_without text n [] all = refl
  behind_without text n (x ∷ files) all = by_test (is_named name text x) (behind_without text n files parts.1)
    where
      parts : (is_before n (name x) ≡ true) × (all_behind n files ≡ true)
      parts = and_parts (is_before n (name x)) (all_behind n files) all

      by_test : (b : Bool) → all_behind n (without_file name text files) ≡ true → all_behind n (cond (not b) (x ∷ without_file name text files) (without_file name text files)) ≡ true
      by_test true later = later
      by_test false later = and_from (is_before n (name x)) (all_behind n (without_file name text files)) parts.0 later

  pub rises_without : (text : List ℕ) (files : List A) → rises name files ≡ true → rises name (without_file name text files) ≡ true
  rises_without text [] up = refl
  rises_without text (x ∷ files) up = by_test (is_named name text x) (rises_without text files parts.1)
    where
      parts : (all_behind (name x) files ≡ true) × (rises name files ≡ true)
      parts = and_parts (all_behind (name x) files) (rises name files) up

      by_test : (b : Bool) → rises name (without_file name text files) ≡ true → rises name (cond (not b) (x ∷ without_file name text files) (without_file name text files)) ≡ true
      by_test true later = later
      by_test false later = and_from (all_behind (name x) (without_file name text files)) (rises name (without_file name text files)) (behind_without text (name x) files parts.0) later

  has_without : (text to : List ℕ) (files : List A) → has_file name to files ≡ false → has_file name to (without_file name text files) ≡ false
  has_without text to [] none = refl
  has_without text to (x ∷ files) none = by_test (is_named name text x) (has_without text to files parts.1)
    where
      parts : (is_named name to x ≡ false) × (has_file name to files ≡ false)
      parts = or_parts (is_named name to x) (has_file name to files) none

      by_test : (b : Bool) → has_file name to (without_file name text files) ≡ false → has_file name to (cond (not b) (x ∷ without_file name text files) (without_file name text files)) ≡ false
      by_test true later = later
      by_test false later = or_from (is_named name to x) (has_file name to (without_file name text files)) parts.0 later

  pub rises_renamed : (text to : List ℕ) (f : A → A) (files : List A) → ((x : A) → name (f x) ≡ to) → has_file name to files ≡ false → rises name files ≡ true
      → rises name (rename_file name text f files) ≡ true
  rises_renamed text to f files names none up = by_found (file_of name text files)
    where
      by_found : (o : Option A) → rises name (put_some name (option_map f o) (without_file name text files)) ≡ true
      by_found None = rises_without text files up
      by_found (Some x) =
          rises-put name (f x) (without_file name text files) (ap (λ n. has_file name n (without_file name text files)) (names x) ∙ has_without text to files none) (rises_without text files up)

  module _ (text : List ℕ) (f : A → A) (names : (x : A) → name (f x) ≡ name x) where
    behind_changed : (n : List ℕ) (files : List A) → all_behind n (change_file name text f files) ≡ all_behind n files
    behind_changed n [] = refl
    behind_changed n (x ∷ files) = by_test (is_named name text x) (behind_changed n files)
      where
        by_test : (b : Bool) → all_behind n (change_file name text f files) ≡ all_behind n files → all_behind n (cond b (f x) x ∷ change_file name text f files) ≡ all_behind n (x ∷ files)
        by_test true rest = ap (λ m. is_before n m && all_behind n (change_file name text f files)) (names x) ∙ ap (λ c. is_before n (name x) && c) rest
        by_test false rest = ap (λ c. is_before n (name x) && c) rest

    pub rises_changed : (files : List A) → rises name files ≡ true → rises name (change_file name text f files) ≡ true
    rises_changed [] up = refl
    rises_changed (x ∷ files) up = by_test (is_named name text x) (rises_changed files parts.1)
      where
        parts : (all_behind (name x) files ≡ true) × (rises name files ≡ true)
        parts = and_parts (all_behind (name x) files) (rises name files) up

        by_test : (b : Bool) → rises name (change_file name text f files) ≡ true → rises name (cond b (f x) x ∷ change_file name text f files) ≡ true
        by_test true later = and_from _ _ (ap (λ n. all_behind n (change_file name text f files)) (names x) ∙ behind_changed (name x) files ∙ parts.0) later
        by_test false later = and_from _ _ (behind_changed (name x) files ∙ parts.0) later

  -- behind a file of a name there is no other
  alone : (text : List ℕ) (x : A) (files : List A) → name x ≡ text → all_behind (name x) files ≡ true → has_file name text files ≡ false
  alone text x [] is all = refl
  alone text x (y ∷ files) is all = or_from (is_named name text y) (has_file name text files) (by_test (is_named name text y) (bytes_eq-Decides (name y) text)) (alone text x files is parts.1)
    where
      parts : (is_before (name x) (name y) ≡ true) × (all_behind (name x) files ≡ true)
      parts = and_parts (is_before (name x) (name y)) (all_behind (name x) files) all

      by_test : (b : Bool) → Decides b (name y ≡ text) → b ≡ false
      by_test false tells = refl
      by_test true tells =
          let same : name y ≡ name x = tells.0 refl ∙ sym is in
          absurd (both_ways (is_before (name x) (name x)) (before-itself (name x)) (sym (ap (is_before (name x)) same) ∙ parts.0))

-- Two lists of files with the same names, of which the one file of a name changes in both.
pub alike_changed : {A B : Type 0} (name : A → List ℕ) (other : B → List ℕ) (R S : A → B → Type 0) (text : List ℕ) (f : A → A) (g : B → B) (xs : List A) (ys : List B)
    → ((x : A) (y : B) → file_of other text ys ≡ Some y → R x y → (name (f x) ≡ name x) × (other (g y) ≡ other y) × S (f x) (g y))
    → ((x : A) (y : B) → R x y → S x y) → rises other ys ≡ true
    → AreAlike name other R xs ys → AreAlike name other S (change_file name text f xs) (change_file other text g ys)
alike_changed name other R S text f g [] [] here beside up alike = tt
alike_changed name other R S text f g [] (y ∷ ys) here beside up alike = absurd alike
alike_changed name other R S text f g (x ∷ xs) [] here beside up alike = absurd alike
alike_changed {A} {B} name other R S text f g (x ∷ xs) (y ∷ ys) here beside up alike = by_test (is_named name text x) (is_named other text y) tests refl (bytes_eq-Decides (other y) text)
    (λ each. alike_changed name other R S text f g xs ys each beside parts.1 alike.2)
  where
    tests : is_named name text x ≡ is_named other text y
    tests = ap (λ n. bytes_eq n text) alike.0

    parts : (list_all (λ z. is_before (other y) (other z)) ys ≡ true) × (rises other ys ≡ true)
    parts = and_parts (list_all (λ z. is_before (other y) (other z)) ys) (rises other ys) up

    rest : AreAlike name other S xs ys
    rest = alike-then name other R S xs ys (λ a b same holds. beside a b holds) alike.2

    by_test : (s t : Bool) → s ≡ t → is_named other text y ≡ t → Decides t (other y ≡ text)
        → (((a : A) (b : B) → file_of other text ys ≡ Some b → R a b → (name (f a) ≡ name a) × (other (g b) ≡ other b) × S (f a) (g b))
        → AreAlike name other S (change_file name text f xs) (change_file other text g ys))
        → AreAlike name other S (cond s (f x) x ∷ change_file name text f xs) (cond t (g y) y ∷ change_file other text g ys)
    by_test true true same is tells later =
        let none : has_file other text ys ≡ false = alone other text y ys (tells.0 refl) parts.0 in
        let made = here x y (ap (λ b. cond b (Some y) (file_of other text ys)) is) alike.1 in (
          made.0 ∙ alike.0 ∙ sym made.1,
          made.2,
          subst (λ l. AreAlike name other S l (change_file other text g ys)) (sym (change-none name text f xs (alike-has name other R text xs ys alike.2 ∙ none)))
              (subst (AreAlike name other S xs) (sym (change-none other text g ys none)) rest),
        )
    by_test true false same is tells later = cc
    by_test false true same is tells later = cc
    by_test false false same is tells later = (
      alike.0,
      beside x y alike.1,
      later (λ a b found holds. here a b (ap (λ c. cond c (Some y) (file_of other text ys)) is ∙ found) holds),
    )
