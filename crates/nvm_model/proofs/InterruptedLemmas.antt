-- Pages whose lines became what an action may leave of each.
use Rattle.std.proofs.Common.{◌≡◌, ◌+◌, ◌*◌, inl, ℕ, Option, Some, None, option_map, List, length, slice_get, refl, sym, ap, subst, ◌∙◌}
use Rattle.line_device.specs.Medium.{Medium}
use Rattle.nvm_model.specs.Numbered.{map_from}
use Rattle.nvm_model.specs.Cell.{Cell, CellStands}
use Rattle.nvm_model.specs.Cell.Cell.{Bad}
use Rattle.nvm_model.specs.Page.{Page, map_lines, cell_of, presence_of, PagesStand}
use Rattle.nvm_model.specs.Page.Page.{Absent, Present}
use Rattle.nvm_model.specs.Interrupted.{Became, LineByLine, MayPersist, MaySync}
use Rattle.nvm_model.proofs.NumberedLemmas.{slice_get-map_from, length-map_from}
use Rattle.nvm_model.proofs.PageLemmas.{cell_of-map, presence_of-lines}

-- what became of a line that is there, and that the device stands for it
pub record IsLeft (R : Cell → Cell → Type 0) (line : ℕ) (m : Medium) (old : Cell) : Type 0 where
  pub left : Cell
  pub may : R old left
  pub stands : CellStands m line left

-- pages that became others line by line, for which the device stands; which are there is as before
pub record ArePagesLeft (R : ℕ → Cell → Cell → Type 0) (place : ℕ → ℕ) (m : Medium) (old : List Page) : Type 0 where
  pub pages : List Page
  pub may : LineByLine R old pages
  pub there : presence_of pages ≡ presence_of old
  pub stand : PagesStand place m pages

-- Each line is left as something that the action may leave; so are the pages.
pub pages_left : (R : ℕ → Cell → Cell → Type 0) (place : ℕ → ℕ) (m : Medium) (pages : List Page)
    → ((i : ℕ) (cells : List Cell) → slice_get pages i ≡ Some (Present cells) → length cells ≡ 64)
    → ((n : ℕ) (cell : Cell) → cell_of pages n ≡ Some cell → IsLeft (R n) (place n) m cell) → ArePagesLeft R place m pages
pages_left R place m pages whole each = record {
  pages = after;
  may = record { there = presence_of-lines change 0 pages; each = λ n. subst (Became (R n) (cell_of pages n)) (sym (cell_of-map change pages n)) (became n (cell_of pages n) refl) };
  there = presence_of-lines change 0 pages;
  stand = record { whole = whole_after; lines = λ n cell is. stands n (cell_of pages n) refl cell (sym (cell_of-map change pages n) ∙ is) };
}
  where
    -- what is left of a line, anything where it isn't there
    left_of : (n : ℕ) (o : Option Cell) → cell_of pages n ≡ o → Cell
    left_of n None is = Bad
    left_of n (Some cell) is = (each n cell is).left

    change : ℕ → Cell → Cell
    change n cell = left_of n (cell_of pages n) refl

    after : List Page
    after = map_from (map_lines change) 0 pages

    became : (n : ℕ) (o : Option Cell) (is : cell_of pages n ≡ o) → Became (R n) o (option_map (λ _. left_of n o is) o)
    became n None is = tt
    became n (Some cell) is = (each n cell is).may

    stands : (n : ℕ) (o : Option Cell) (is : cell_of pages n ≡ o) (cell : Cell) → option_map (λ _. left_of n o is) o ≡ Some cell → CellStands m (place n) cell
    stands n None is cell found = cc
    stands n (Some old) is cell found =
        let same : (each n old is).left ≡ cell = cc in subst (CellStands m (place n)) same (each n old is).stands

    whole_after : (i : ℕ) (cells : List Cell) → slice_get after i ≡ Some (Present cells) → length cells ≡ 64
    whole_after i cells is = by_page (slice_get pages i) refl (sym (slice_get-map_from (map_lines change) 0 pages i) ∙ is)
      where
        by_page : (o : Option Page) → slice_get pages i ≡ o → option_map (map_lines change (0 + i)) o ≡ Some (Present cells) → length cells ≡ 64
        by_page None was is = cc
        by_page (Some Absent) was is = cc
        by_page (Some (Present old)) was is =
            let same : map_from change (64 * (0 + i)) old ≡ cells = cc in ap length (sym same) ∙ length-map_from change (64 * (0 + i)) old ∙ whole i old was

-- a sync that got nowhere is one that was interrupted
pub may_sync-none : (start len : ℕ) (pages : List Page) → MaySync start len pages pages
may_sync-none start len pages = record { there = refl; each = λ n. by_cell n (cell_of pages n) }
  where
    by_cell : (n : ℕ) (o : Option Cell) → Became (MayPersist start len n) o o
    by_cell n None = tt
    by_cell n (Some cell) = inl refl
