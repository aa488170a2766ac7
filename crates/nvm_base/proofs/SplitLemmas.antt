-- Text in parts, round bytes that pass a test.
use Rattle.std.proofs.Common.{◌≡◌, ℕ, Bool, true, false, not, List, [], ◌∷◌, ◌++◌, refl, ap, ◌∙◌}
use Rattle.std.specs.List.{list_all, slice_split, onto_first}
use Rattle.std.proofs.lemmas.Bool.{and_parts}
use Rattle.std.proofs.lemmas.List.Splits.{slice_split-cons_yes, slice_split-cons_no}

-- no element passes the test
abbrev pub has_none : (ℕ → Bool) → List ℕ → Bool
has_none p text = list_all (λ c. not (p c)) text

pub fails : (b : Bool) → not b ≡ true → b ≡ false
fails false e = refl
fails true e = absurd (cc)

-- what passes one test passes another
pub list_all-weaker : (p q : ℕ → Bool) → ((c : ℕ) → p c ≡ true → q c ≡ true) → (text : List ℕ) → list_all p text ≡ true → list_all q text ≡ true
list_all-weaker p q h [] e = refl
list_all-weaker p q h (c ∷ cs) e =
    let parts = and_parts (p c) (list_all p cs) e in
    simp (h c parts.0, list_all-weaker p q h cs parts.1) refl

-- text where nothing passes is one part, also before a byte that does
pub split-alone : (p : ℕ → Bool) (text : List ℕ) → has_none p text ≡ true → slice_split p text ≡ text ∷ []
split-alone p [] e = refl
split-alone p (c ∷ cs) e =
    let parts = and_parts (not (p c)) (has_none p cs) e in
    slice_split-cons_no p c cs (fails (p c) parts.0) ∙ ap (onto_first c) (split-alone p cs parts.1)

pub split-before : (p : ℕ → Bool) (text : List ℕ) (c : ℕ) (rest : List ℕ) → has_none p text ≡ true → p c ≡ true → slice_split p (text ++ c ∷ rest) ≡ text ∷ slice_split p rest
split-before p [] c rest e t = slice_split-cons_yes p c rest t
split-before p (b ∷ bs) c rest e t =
    let parts = and_parts (not (p b)) (has_none p bs) e in
    slice_split-cons_no p b (bs ++ c ∷ rest) (fails (p b) parts.0) ∙ ap (onto_first b) (split-before p bs c rest parts.1 t)
