-- A line as a restart leaves it that shows what reads tell: of each word a value on which they agree.
use Rattle.std.proofs.Common.{◌≡◌, inl, inr, ℕ, ◌+◌, ◌*◌, ◌≤◌, Bool, true, false, cond, ◌||◌, Option, Some, None, option_map, List, [], ◌∷◌, length, refl, sym, ap, subst, ◌∙◌, arith}
use Rattle.std.specs.List.{list_any}
use Rattle.line_device.specs.History.{IsIn}
use Rattle.nvm_model.specs.Cell.{Cell}
use Rattle.nvm_model.specs.Cell.Cell.{Bad, Kept}
use Rattle.nvm_model.specs.Interrupted.{Became}
use Rattle.nvm_model.specs.Numbered.{map_from}
use Rattle.nvm_model.specs.Page.{Page, cell_of, map_lines}
use Rattle.nvm_model.proofs.NumberedLemmas.{length-map_from, slice_get-map_from}
use Rattle.nvm_model.proofs.PageLemmas.{cell_of-map, presence_of-lines}
use Rattle.outcomes.specs.Outcome.{HasValues, HaveValues, PagesSurvive, Survives}
use Rattle.outcomes.specs.Pages.{PageRead, all_agree}

module _ (reads : List PageRead) where
  -- the first value of word p on which the reads agree, and the last one where they agree on none
  pub chosen : ℕ → List ℕ → ℕ
  chosen p [] = 0
  chosen p (v ∷ []) = v
  chosen p (v ∷ u ∷ history) = cond (all_agree reads p v) v (chosen p (u ∷ history))

  chosen-in : (p : ℕ) (history : List ℕ) → 1 ≤ length history → IsIn (chosen p history) history
  unfolding chosen
  chosen-in p [] some = absurd (omega (arith, some))
  chosen-in p (v ∷ []) some = inl refl
  chosen-in p (v ∷ u ∷ history) some = by_test (all_agree reads p v) (chosen-in p (u ∷ history) (omega arith))
    where
      by_test : (b : Bool) → IsIn (chosen p (u ∷ history)) (u ∷ history) → IsIn (cond b v (chosen p (u ∷ history))) (v ∷ u ∷ history)
      by_test true later = inl refl
      by_test false later = inr later

  pub chosen-agrees : (p : ℕ) (history : List ℕ) → list_any (all_agree reads p) history ≡ true → all_agree reads p (chosen p history) ≡ true
  unfolding chosen
  chosen-agrees p [] some = cc some
  chosen-agrees p (v ∷ []) some = by_test (all_agree reads p v) some
    where
      by_test : (b : Bool) → (b || false) ≡ true → b ≡ true
      by_test true is = refl
      by_test false is = is
  chosen-agrees p (v ∷ u ∷ history) some = by_test (all_agree reads p v) refl (chosen-agrees p (u ∷ history)) some
    where
      by_test : (b : Bool) → all_agree reads p v ≡ b → (list_any (all_agree reads p) (u ∷ history) ≡ true → all_agree reads p (chosen p (u ∷ history)) ≡ true)
          → (b || list_any (all_agree reads p) (u ∷ history)) ≡ true → all_agree reads p (cond b v (chosen p (u ∷ history))) ≡ true
      by_test true is later passes = is
      by_test false is later passes = later passes

  abbrev pub picked_word : ℕ → List ℕ → List ℕ
  picked_word p history = chosen p history ∷ []

  abbrev pub picked : ℕ → Cell → Cell
  picked n Bad = Bad
  picked n (Kept weak words) = Kept weak (map_from picked_word (8 * n) words)

  pub picked_pages : List Page → List Page
  picked_pages pages = map_from (map_lines picked) 0 pages

  pub picked_none : picked_pages [] ≡ []
  unfolding picked_pages
  picked_none = refl

  pub picked_size : (pages : List Page) → length (picked_pages pages) ≡ length pages
  unfolding picked_pages
  picked_size pages = length-map_from (map_lines picked) 0 pages

  pub cell_of-picked : (pages : List Page) (n : ℕ) → cell_of (picked_pages pages) n ≡ option_map (picked n) (cell_of pages n)
  unfolding picked_pages
  cell_of-picked pages n = cell_of-map picked pages n

  picked_survives : (n : ℕ) (cell : Cell) → HasValues cell → Survives cell (picked n cell)
  picked_survives n Bad have = tt
  picked_survives n (Kept weak words) have = (
    refl,
    length-map_from picked_word (8 * n) words,
    λ w history is. (
      chosen (8 * n + w) history,
      chosen-in (8 * n + w) history (have w history is),
      slice_get-map_from picked_word (8 * n) words w ∙ ap (option_map (picked_word (8 * n + w))) is,
    ),
  )

  -- it is what a restart may leave of them
  pub pages_survive : (pages : List Page) → HaveValues pages → PagesSurvive pages (picked_pages pages)
  unfolding picked_pages
  pages_survive pages have = record {
    there = presence_of-lines picked 0 pages;
    each = λ n. subst (Became Survives (cell_of pages n)) (sym (cell_of-map picked pages n)) (by_cell n (cell_of pages n) refl);
  }
    where
      by_cell : (n : ℕ) (o : Option Cell) → cell_of pages n ≡ o → Became Survives o (option_map (picked n) o)
      by_cell n None is = tt
      by_cell n (Some cell) is = picked_survives n cell (have n cell is)
