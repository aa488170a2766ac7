-- The table of presence words, and which pages are there by it.
use Rattle.std.proofs.Common.{◌≡◌, ℕ, zero, suc, Bool, true, false, ◌<◌, ◌==◌, List, [], ◌∷◌, length, get_or, map, nat_lt, Option, position, cond, inl, inr, Some, None, refl, sym, ◌∙◌, ap, ap₂, arith}
use Rattle.std.specs.List.{position_or_len}
use Rattle.std.proofs.lemmas.Bool.{cases_Bool, false≢true, lt-ltb, ltb-false}
use Rattle.std.proofs.lemmas.Option.{none-some}
use Rattle.std.proofs.lemmas.List.Sums.{fails_before_first}
use Rattle.pm_volume.specs.Presence.{first_wrong_page, presence_word}

-- where nothing is found in a list none of it passes
none_found_in : (p : ℕ → Bool) (xs : List ℕ) (k : ℕ) (d : ℕ) → position p xs ≡ None → k < length xs → p (get_or xs k d) ≡ false
none_found_in p xs k d none below =
    let found = position_or_len p xs in
    elim (cases_Bool (nat_lt found (length xs))) as (λ _. p (get_or xs k d) ≡ false) [
      | inl here ↦ absurd (none-some found (sym none ∙ ap (λ b. cond b (Some found) None) here))
      | inr past ↦ fails_before_first p xs k d (omega (arith, below, ltb-false found (length xs) past))
    ]

-- a search that found nothing
pub no_answer : (o : Option ℕ) → ((k : ℕ) → o ≡ Some k → ⊥) → o ≡ None
no_answer None not_some = refl
no_answer (Some k) not_some = absurd (not_some k refl)

-- a word tells what it was made of
pub presence_back : (there : List Bool) → map (λ w. w == 1) (map presence_word there) ≡ there
presence_back [] = refl
presence_back (true ∷ bs) = ap (λ xs. true ∷ xs) (presence_back bs)
presence_back (false ∷ bs) = ap (λ xs. false ∷ xs) (presence_back bs)

-- and words that are right are made of what they tell
one_word : (w : ℕ) → nat_lt 1 w ≡ false → presence_word (w == 1) ≡ w
one_word zero right = refl
one_word (suc zero) right = refl
one_word (suc (suc n)) right = absurd (false≢true (sym right ∙ lt-ltb 1 (suc (suc n)) (omega arith)))

pub presence_of_words : (words : List ℕ) → first_wrong_page words ≡ None → map presence_word (map (λ w. w == 1) words) ≡ words
presence_of_words words none = each words (λ k below. none_found_in (λ w. nat_lt 1 w) words k 0 none below)
  where
    each : (ws : List ℕ) → ((k : ℕ) → k < length ws → nat_lt 1 (get_or ws k 0) ≡ false) → map presence_word (map (λ w. w == 1) ws) ≡ ws
    each [] right = refl
    each (w ∷ ws) right = ap₂ ◌∷◌ (one_word w (right 0 (omega arith))) (each ws (λ k below. right (suc k) (omega arith)))

-- presence words by number
pub presence_at : (there : List Bool) (k : ℕ) → presence_word (get_or there k false) ≡ get_or (map presence_word there) k 0
presence_at [] k = refl
presence_at (b ∷ bs) zero = refl
presence_at (b ∷ bs) (suc k) = presence_at bs k
