-- What an image of lines shows of a line.
use Rattle.std.proofs.Common.{◌≡◌, ℕ, zero, suc, ◌+◌, ◌*◌, ◌/◌, ◌%◌, ◌<◌, Bool, false, Some, None, if◌then◌else◌, List, [], ◌∷◌, length, get_or, slice_get, refl, sym, ap, ap₂, subst, ◌∙◌, arith}
use Rattle.std.proofs.lemmas.Option.{get_or_from_slice_get, slice_get-get_or}
use Rattle.line_device.specs.History.{newest}
use Rattle.nvm_model.specs.Numbered.{list_from}
use Rattle.nvm_model.specs.Cell.{Cell, read_cell}
use Rattle.nvm_model.specs.Cell.Cell.{Bad, Kept}
use Rattle.nvm_model.proofs.NumberedLemmas.{length-list_from, slice_get-list_from}
use Rattle.state_images.specs.Lines.{image_of_lines, shown_bad, shown_weak, shown_word, words_line}
use Rattle.state_images.specs.Storable.{HasOneValue, HaveOneValue, IsSettled}

-- lists with the same items
pub same_items : {A : Type 0} (xs ys : List A) → length xs ≡ length ys → ((k : ℕ) → k < length xs → slice_get xs k ≡ slice_get ys k) → xs ≡ ys
same_items [] [] size same = refl
same_items [] (y ∷ ys) size same = absurd (omega arith)
same_items (x ∷ xs) [] size same = absurd (omega arith)
same_items (x ∷ xs) (y ∷ ys) size same =
    let head : Some x ≡ Some y = same 0 (omega arith) in
    let first : x ≡ y = cc in
    ap₂ (λ z zs. z ∷ zs) first (same_items xs ys (omega arith) (λ k below. same (suc k) (omega arith)))

pub some_item : {A : Type 0} (xs : List A) (k : ℕ) → k < length xs → slice_get xs k ≡ None → ⊥
some_item [] k below none = omega arith
some_item (x ∷ xs) zero below none = cc
some_item (x ∷ xs) (suc k) below none = some_item xs k (omega arith) none

-- a word of an area of words
pub word-in : (word : ℕ → ℕ) (i k : ℕ) → k < 8 → shown_word (words_line word i) k ≡ word (8 * i + k)
unfolding words_line
word-in word i k below =
    ap newest (get_or_from_slice_get (list_from (λ w. word w ∷ []) (8 * i) 8) k (word (8 * i + k) ∷ []) [] (slice_get-list_from (λ w. word w ∷ []) (8 * i) 8 k below))

pub words_line-good : (word : ℕ → ℕ) (i : ℕ) → shown_bad (words_line word i) ≡ false
unfolding words_line
words_line-good word i = refl

-- a word of one value
pub one-value : (history : List ℕ) → HasOneValue history → newest history ∷ [] ≡ history
one-value [] one = absurd one
one-value (v ∷ []) one = refl
one-value (v ∷ w ∷ values) one = absurd one

pub one-of : (words : List (List ℕ)) (k : ℕ) (history : List ℕ) → HaveOneValue words → slice_get words k ≡ Some history → HasOneValue history
one-of [] k history all is = cc
one-of (word ∷ words) zero history all is = let same : word ≡ history = cc in subst HasOneValue same all.0
one-of (word ∷ words) (suc k) history all is = one-of words k history all.1 is

module _ (count : ℕ) (line : ℕ → Cell) (n : ℕ) where
  -- word k of line n
  pub word-at : (k : ℕ) → k < 8 → (image_of_lines count line).word (8 * n + k) ≡ shown_word (line n) k
  word-at k below =
      let at : (8 * n + k) / 8 ≡ n = omega arith in
      let rest : (8 * n + k) % 8 ≡ k = omega arith in
      ap₂ (λ (m j : ℕ). shown_word (line m) j) at rest

  words-read : (weak : Bool) (words : List (List ℕ)) → line n ≡ Kept weak words → length words ≡ 8 → HaveOneValue words
      → list_from (λ p. (image_of_lines count line).word p ∷ []) (8 * n) 8 ≡ words
  words-read weak words is all one =
      same_items _ words (length-list_from (λ p. (image_of_lines count line).word p ∷ []) (8 * n) 8 ∙ sym all) (λ k low.
      let below : k < 8 = omega (arith, low, length-list_from (λ p. (image_of_lines count line).word p ∷ []) (8 * n) 8) in
      let here : slice_get words k ≡ Some (get_or words k []) = slice_get-get_or words k [] (omega arith) in
      slice_get-list_from (λ p. (image_of_lines count line).word p ∷ []) (8 * n) 8 k below
      ∙ ap (λ v. Some (v ∷ [])) (word-at k below ∙ ap (λ c. shown_word c k) is)
      ∙ ap Some (one-value (get_or words k []) (one-of words k (get_or words k []) one here))
      ∙ sym here)

  -- a line of one value each reads as itself
  pub cell-read : (cell : Cell) → line n ≡ cell → IsSettled cell → read_cell (image_of_lines count line) n ≡ cell
  cell-read Bad is settled =
      ap (λ b. if b then Bad else Kept (shown_weak (line n)) (list_from (λ p. (image_of_lines count line).word p ∷ []) (8 * n) 8)) (ap shown_bad is)
  cell-read (Kept weak words) is settled =
      ap (λ b. if b then Bad else Kept (shown_weak (line n)) (list_from (λ p. (image_of_lines count line).word p ∷ []) (8 * n) 8)) (ap shown_bad is)
      ∙ ap₂ Kept (ap shown_weak is) (words-read weak words is settled.0 settled.1)
