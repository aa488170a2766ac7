-- A store that got to some lines is what an interrupted store may leave.
use Rattle.std.proofs.Common.{◌≡◌, ◌*◌, inl, inr, ℕ, Bool, true, false, cond, if◌then◌else◌, Option, Some, None, option_map, List, [], ◌∷◌, length, replicate, refl, sym, subst}
use Rattle.line_device.specs.Medium.{word_stored}
use Rattle.nvm_model.specs.Numbered.{AreMixed, map_from}
use Rattle.nvm_model.specs.Cell.{Cell, covers, put_cell}
use Rattle.nvm_model.specs.Cell.Cell.{Bad, Kept}
use Rattle.nvm_model.specs.Page.{Page, cell_of, fill, map_lines}
use Rattle.nvm_model.specs.Interrupted.{Became, MayPut, MayStore}
use Rattle.nvm_model.proofs.NumberedLemmas.{length-map_from}
use Rattle.nvm_model.proofs.PageLemmas.{cell_of-map, presence_of-lines}

-- the pages of a store that got to these lines
abbrev pub stored_among : (ℕ → Bool) → ℕ → List ℕ → List Page → List Page
stored_among chosen at bytes pages = map_from (map_lines (λ n cell. if chosen n then put_cell at bytes n cell else cell)) 0 (fill at (length bytes) pages)

pub may_store-among : (chosen : ℕ → Bool) (at : ℕ) (bytes : List ℕ) (pages : List Page) → MayStore at bytes pages (stored_among chosen at bytes pages)
may_store-among chosen at bytes pages = inr (record {
  there = presence_of-lines change 0 filled;
  each = λ n. subst (Became (MayPut at bytes n) (cell_of filled n)) (sym (cell_of-map change filled n)) (by_cell n (cell_of filled n));
})
  where
    filled : List Page
    filled = fill at (length bytes) pages

    change : ℕ → Cell → Cell
    change n cell = if chosen n then put_cell at bytes n cell else cell

    all_new : (n : ℕ) (words : List (List ℕ)) → AreMixed (List ℕ) words (map_from (word_stored at bytes) (8 * n) words) (map_from (word_stored at bytes) (8 * n) words)
    all_new n words = record { length = length-map_from (word_stored at bytes) (8 * n) words; each = λ i. inr refl }

    put_may : (n : ℕ) (cell : Cell) → MayPut at bytes n cell (put_cell at bytes n cell)
    put_may n Bad = by_cover (covers at (length bytes) n) refl
      where
        by_cover : (c : Bool) → covers at (length bytes) n ≡ c → MayPut at bytes n Bad (cond c (Kept false (map_from (word_stored at bytes) (8 * n) (replicate 8 (0 ∷ [])))) Bad)
        by_cover true covered = inr (covered, (refl, all_new n (replicate 8 (0 ∷ []))))
        by_cover false not_covered = inl refl
    put_may n (Kept weak words) = (refl, all_new n words)

    same_may : (n : ℕ) (cell : Cell) → MayPut at bytes n cell cell
    same_may n Bad = inl refl
    same_may n (Kept weak words) = (refl, record { length = refl; each = λ i. inl refl })

    by_choice : (n : ℕ) (c : Bool) (cell : Cell) → MayPut at bytes n cell (cond c (put_cell at bytes n cell) cell)
    by_choice n true cell = put_may n cell
    by_choice n false cell = same_may n cell

    by_cell : (n : ℕ) (o : Option Cell) → Became (MayPut at bytes n) o (option_map (change n) o)
    by_cell n None = tt
    by_cell n (Some cell) = by_choice n (chosen n) cell
