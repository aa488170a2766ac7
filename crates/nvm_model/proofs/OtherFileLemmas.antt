-- Another file is found as before, whatever happens to one.
use Rattle.std.proofs.Common.{◌≡◌, ℕ, Bool, true, false, not, List, [], ◌∷◌, Option, Some, None, refl, sym, ap, ◌∙◌, inl, inr, cond, option_map}
use Rattle.std.proofs.lemmas.Bool.{cond-true, cond-false, cases_Bool}
use Rattle.std.specs.Bool.{Decides}
use Rattle.std.proofs.lemmas.Slice.Eq.{bytes_eq-Decides}
use Rattle.nvm_model.specs.Listing.{change_file, file_of, is_before, is_named, put_file, put_some, rename_file, without_file}
use Rattle.nvm_model.proofs.OrderLemmas.{put-first, put-later}
use Rattle.nvm_model.proofs.FileLemmas.{named-not}

module _ {A : Type 0} (name : A → List ℕ) (text : List ℕ) where
  -- one is put beside it
  pub other-put : (x : A) (ys : List A) (y : A) → (name x ≡ text → ⊥) → file_of name text ys ≡ Some y → file_of name text (put_file name x ys) ≡ Some y
  other-put x [] y other found = cc found
  other-put x (z ∷ zs) y other found =
      elim (cases_Bool (is_before (name x) (name z))) [
        | inl first ↦ ap (file_of name text) (put-first name x z zs first) ∙ cond-false (is_named name text x) _ _ (named-not name text x other) ∙ found
        | inr later ↦ ap (file_of name text) (put-later name x z zs later) ∙ by_test (is_named name text z) found (λ more. other-put x zs y other more)
      ]
    where
      by_test : (b : Bool) → cond b (Some z) (file_of name text zs) ≡ Some y → (file_of name text zs ≡ Some y → file_of name text (put_file name x zs) ≡ Some y)
          → cond b (Some z) (file_of name text (put_file name x zs)) ≡ Some y
      by_test true found more = found
      by_test false found more = more found

  -- one is taken out
  pub other-without : (gone : List ℕ) (ys : List A) (y : A) → (gone ≡ text → ⊥) → file_of name text ys ≡ Some y → file_of name text (without_file name gone ys) ≡ Some y
  other-without gone [] y other found = cc found
  other-without gone (z ∷ zs) y other found = by_tests (is_named name gone z) (is_named name text z) (bytes_eq-Decides (name z) gone) refl found (λ more. other-without gone zs y other more)
    where
      by_tests : (g t : Bool) → Decides g (name z ≡ gone) → is_named name text z ≡ t → cond t (Some z) (file_of name text zs) ≡ Some y
          → (file_of name text zs ≡ Some y → file_of name text (without_file name gone zs) ≡ Some y)
          → file_of name text (cond (not g) (z ∷ without_file name gone zs) (without_file name gone zs)) ≡ Some y
      by_tests true true tells is found more = absurd (other (sym (tells.0 refl) ∙ (bytes_eq-Decides (name z) text).0 is))
      by_tests true false tells is found more = more found
      by_tests false true tells is found more = cond-true (is_named name text z) _ _ is ∙ found
      by_tests false false tells is found more = cond-false (is_named name text z) _ _ is ∙ more found

  -- one is changed
  pub other-change : (named : List ℕ) (f : A → A) (ys : List A) (y : A) → (named ≡ text → ⊥) → ((x : A) → name (f x) ≡ name x) → file_of name text ys ≡ Some y
      → file_of name text (change_file name named f ys) ≡ Some y
  other-change named f [] y other keeps found = cc found
  other-change named f (z ∷ zs) y other keeps found =
      by_tests (is_named name named z) (is_named name text z) (bytes_eq-Decides (name z) named) refl found (λ more. other-change named f zs y other keeps more)
    where
      by_tests : (g t : Bool) → Decides g (name z ≡ named) → is_named name text z ≡ t → cond t (Some z) (file_of name text zs) ≡ Some y
          → (file_of name text zs ≡ Some y → file_of name text (change_file name named f zs) ≡ Some y)
          → cond (is_named name text (cond g (f z) z)) (Some (cond g (f z) z)) (file_of name text (change_file name named f zs)) ≡ Some y
      by_tests true true tells is found more = absurd (other (sym (tells.0 refl) ∙ (bytes_eq-Decides (name z) text).0 is))
      by_tests true false tells is found more =
          cond-false (is_named name text (f z)) _ _ (named-not name text (f z) (λ e. other (sym (tells.0 refl) ∙ (sym (keeps z) ∙ e)))) ∙ more found
      by_tests false true tells is found more = cond-true (is_named name text z) _ _ is ∙ found
      by_tests false false tells is found more = cond-false (is_named name text z) _ _ is ∙ more found

  -- one gets another name
  pub other-rename : (named : List ℕ) (f : A → A) (ys : List A) (y : A) → (named ≡ text → ⊥) → ((x : A) → name (f x) ≡ text → ⊥) → file_of name text ys ≡ Some y
      → file_of name text (rename_file name named f ys) ≡ Some y
  other-rename named f ys y other apart found = by_file (file_of name named ys)
    where
      by_file : (o : Option A) → file_of name text (put_some name (option_map f o) (without_file name named ys)) ≡ Some y
      by_file None = other-without named ys y other found
      by_file (Some x) = other-put (f x) (without_file name named ys) y (apart x) (other-without named ys y other found)
