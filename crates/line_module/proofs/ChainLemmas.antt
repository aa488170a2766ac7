-- The chains of lines: words that are cleared, and words to which values come.
use Rattle.std.proofs.Common.{◌≡◌, inl, inr, ℕ, zero, suc, true, false, ◌+◌, ◌<◌, ◌≤◌, List, [], ◌∷◌, ◌++◌, length, set, ◌==◌, if◌then◌else◌, refl, sym, ◌∙◌, ap, arith}
use Rattle.std.specs.List.{slice_get}
use Rattle.std.proofs.lemmas.Bool.{cases_eq, cases_lt, eq-eqb, ne_eqb}
use Rattle.std.proofs.lemmas.Option.{slice_get_past}
use Rattle.arrayvec.specs.ArrayVec.{ArrayVec}
use Rattle.line_device.specs.Word.{word_at, reaches}
use Rattle.line_module.specs.Memory.{one_more}
use Rattle.line_module.specs.Chains.{items_in, grown_word}
pub use Rattle.line_device.proofs.CellsLemmas.{slice_get-set_other, slice_get-set_same}

-- one more word without values
pub empty-push : (xs : List (ArrayVec ℕ)) (v : ArrayVec ℕ) → v.items ≡ [] → ((w : ℕ) → items_in (slice_get xs w) ≡ []) → (w : ℕ) → items_in (slice_get (xs ++ v ∷ []) w) ≡ []
empty-push [] v none all zero = none
empty-push [] v none all (suc w) = refl
empty-push (x ∷ xs) v none all zero = all 0
empty-push (x ∷ xs) v none all (suc w) = empty-push xs v none (λ i. all (suc i)) w

-- one more word is cleared
pub empty-set : (xs : List (ArrayVec ℕ)) (n : ℕ) (v : ArrayVec ℕ) → n < length xs → v.items ≡ [] → ((w : ℕ) → w < n → items_in (slice_get xs w) ≡ []) → (w : ℕ) → w < n + 1 → items_in (slice_get (set xs n v) w) ≡ []
empty-set xs n v within none all w below =
    elim (cases_eq w n) as (λ _. items_in (slice_get (set xs n v) w) ≡ []) [
      | inl is ↦ ap (λ k. items_in (slice_get (set xs n v) k)) is ∙ ap items_in (slice_get-set_same xs n v within) ∙ none
      | inr other ↦ ap items_in (slice_get-set_other xs n w v other) ∙ all w (omega arith)
    ]

pub empty-past : (xs : List (ArrayVec ℕ)) (n : ℕ) → length xs ≤ n → ((w : ℕ) → w < n → items_in (slice_get xs w) ≡ []) → (w : ℕ) → items_in (slice_get xs w) ≡ []
empty-past xs n long all w =
    elim (cases_lt w n) as (λ _. items_in (slice_get xs w) ≡ []) [ inl below ↦ all w below | inr past ↦ ap items_in (slice_get_past xs w (omega arith)) ]

-- a word has sixteen values where fifteen come after the durable one
pub is_whole : (first : ℕ) (h : List ℕ) → (length (first ∷ h) == 16) ≡ (length h == 15)
is_whole first h =
    elim (cases_eq (length h) 15) as (λ _. (length (first ∷ h) == 16) ≡ (length h == 15)) [
      | inl is ↦ eq-eqb (suc (length h)) 16 (omega arith) ∙ sym (eq-eqb (length h) 15 is)
      | inr other ↦ ne_eqb (suc (length h)) 16 (λ is. other (omega arith)) ∙ sym (ne_eqb (length h) 15 other)
    ]

-- the words that are reached, and the others
pub grown_word-in : (at len : ℕ) (line : List ℕ) (w : ℕ) (h : List ℕ) → reaches at len w ≡ true → grown_word at len line w h ≡ one_more h (word_at line w)
grown_word-in at len line w h in_reach = ap (λ b. if b then one_more h (word_at line w) else h) in_reach

pub grown_word-out : (at len : ℕ) (line : List ℕ) (w : ℕ) (h : List ℕ) → reaches at len w ≡ false → grown_word at len line w h ≡ h
grown_word-out at len line w h out = ap (λ b. if b then one_more h (word_at line w) else h) out
