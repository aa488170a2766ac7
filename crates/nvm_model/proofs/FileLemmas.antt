-- Files found, taken out and changed in a list that one was put into.
use Rattle.std.proofs.Common.{◌≡◌, ℕ, true, false, not, List, [], ◌∷◌, Some, None, refl, sym, ap, ◌∙◌, inl, inr}
use Rattle.std.proofs.lemmas.Bool.{cond-true, cond-false, cases_Bool, or_parts, or_from, false_from_ne_true}
use Rattle.std.proofs.lemmas.Slice.Eq.{bytes_eq-Decides}
use Rattle.nvm_model.specs.Listing.{is_before, put_file, is_named, has_file, file_of, without_file, change_file}
use Rattle.nvm_model.proofs.OrderLemmas.{put-first, put-later}

-- whether a file has a name
pub named-is : {A : Type 0} (name : A → List ℕ) (text : List ℕ) (x : A) → name x ≡ text → is_named name text x ≡ true
named-is name text x is = (bytes_eq-Decides (name x) text).1 is

pub named-not : {A : Type 0} (name : A → List ℕ) (text : List ℕ) (x : A) → (name x ≡ text → ⊥) → is_named name text x ≡ false
named-not name text x other = false_from_ne_true (is_named name text x) (λ h. other ((bytes_eq-Decides (name x) text).0 h))

-- no file of a name is put or was there
pub has_file-put : {A : Type 0} (name : A → List ℕ) (text : List ℕ) (x : A) (ys : List A) → (name x ≡ text → ⊥) → has_file name text ys ≡ false
    → has_file name text (put_file name x ys) ≡ false
has_file-put name text x [] other none = or_from (is_named name text x) false (named-not name text x other) refl
has_file-put name text x (y ∷ ys) other none =
    elim (cases_Bool (is_before (name x) (name y))) [
      | inl first ↦ ap (has_file name text) (put-first name x y ys first) ∙ or_from (is_named name text x) _ (named-not name text x other) none
      | inr later ↦
          let parts = or_parts (is_named name text y) (has_file name text ys) none in
          ap (has_file name text) (put-later name x y ys later) ∙ or_from (is_named name text y) _ parts.0 (has_file-put name text x ys other parts.1)
    ]

-- the file that was put is the one of its name
pub file_of-put : {A : Type 0} (name : A → List ℕ) (text : List ℕ) (x : A) (ys : List A) → name x ≡ text → has_file name text ys ≡ false
    → file_of name text (put_file name x ys) ≡ Some x
file_of-put name text x [] is none = cond-true (is_named name text x) (Some x) None (named-is name text x is)
file_of-put name text x (y ∷ ys) is none =
    elim (cases_Bool (is_before (name x) (name y))) [
      | inl first ↦ ap (file_of name text) (put-first name x y ys first) ∙ cond-true (is_named name text x) _ _ (named-is name text x is)
      | inr later ↦
          let parts = or_parts (is_named name text y) (has_file name text ys) none in
          ap (file_of name text) (put-later name x y ys later) ∙ cond-false (is_named name text y) _ _ parts.0 ∙ file_of-put name text x ys is parts.1
    ]

pub file_of-none : {A : Type 0} (name : A → List ℕ) (text : List ℕ) (ys : List A) → has_file name text ys ≡ false → file_of name text ys ≡ None
file_of-none name text [] none = refl
file_of-none name text (y ∷ ys) none =
    let parts = or_parts (is_named name text y) (has_file name text ys) none in
    cond-false (is_named name text y) _ _ parts.0 ∙ file_of-none name text ys parts.1

pub without-none : {A : Type 0} (name : A → List ℕ) (text : List ℕ) (ys : List A) → has_file name text ys ≡ false → without_file name text ys ≡ ys
without-none name text [] none = refl
without-none name text (y ∷ ys) none =
    let parts = or_parts (is_named name text y) (has_file name text ys) none in
    cond-true (not (is_named name text y)) _ _ (ap not parts.0) ∙ ap (λ l. y ∷ l) (without-none name text ys parts.1)

pub without-put : {A : Type 0} (name : A → List ℕ) (text : List ℕ) (x : A) (ys : List A) → name x ≡ text → has_file name text ys ≡ false
    → without_file name text (put_file name x ys) ≡ ys
without-put name text x [] is none = cond-false (not (is_named name text x)) _ _ (ap not (named-is name text x is))
without-put name text x (y ∷ ys) is none =
    elim (cases_Bool (is_before (name x) (name y))) [
      | inl first ↦
          ap (without_file name text) (put-first name x y ys first) ∙ cond-false (not (is_named name text x)) _ _ (ap not (named-is name text x is))
          ∙ without-none name text (y ∷ ys) none
      | inr later ↦
          let parts = or_parts (is_named name text y) (has_file name text ys) none in
          ap (without_file name text) (put-later name x y ys later) ∙ cond-true (not (is_named name text y)) _ _ (ap not parts.0)
          ∙ ap (λ l. y ∷ l) (without-put name text x ys is parts.1)
    ]

pub change-none : {A : Type 0} (name : A → List ℕ) (text : List ℕ) (f : A → A) (ys : List A) → has_file name text ys ≡ false
    → change_file name text f ys ≡ ys
change-none name text f [] none = refl
change-none name text f (y ∷ ys) none =
    let parts = or_parts (is_named name text y) (has_file name text ys) none in
    ap (λ z. z ∷ change_file name text f ys) (cond-false (is_named name text y) (f y) y parts.0) ∙ ap (λ l. y ∷ l) (change-none name text f ys parts.1)

pub change-put : {A : Type 0} (name : A → List ℕ) (text : List ℕ) (f : A → A) (x : A) (ys : List A) → name x ≡ text → name (f x) ≡ name x
    → has_file name text ys ≡ false → change_file name text f (put_file name x ys) ≡ put_file name (f x) ys
change-put name text f x [] is keeps none = ap (λ z. z ∷ []) (cond-true (is_named name text x) (f x) x (named-is name text x is))
change-put name text f x (y ∷ ys) is keeps none =
    elim (cases_Bool (is_before (name x) (name y))) [
      | inl first ↦
          ap (change_file name text f) (put-first name x y ys first)
          ∙ ap (λ z. z ∷ change_file name text f (y ∷ ys)) (cond-true (is_named name text x) (f x) x (named-is name text x is))
          ∙ ap (λ l. f x ∷ l) (change-none name text f (y ∷ ys) none) ∙ sym (put-first name (f x) y ys (ap (λ n. is_before n (name y)) keeps ∙ first))
      | inr later ↦
          let parts = or_parts (is_named name text y) (has_file name text ys) none in
          ap (change_file name text f) (put-later name x y ys later)
          ∙ ap (λ z. z ∷ change_file name text f (put_file name x ys)) (cond-false (is_named name text y) (f y) y parts.0)
          ∙ ap (λ l. y ∷ l) (change-put name text f x ys is keeps parts.1) ∙ sym (put-later name (f x) y ys (ap (λ n. is_before n (name y)) keeps ∙ later))
    ]
