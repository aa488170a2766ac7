-- Absent pages turned into zeros.
use Rattle.std.proofs.Common.{◌≡◌, ℕ, zero, suc, ◌+◌, ◌/◌, ◌%◌, Bool, true, false, cond, Option, Some, None, option_map, option_and_then, List, [], ◌∷◌, length, replicate, slice_get, refl, sym, ap, subst, ◌∙◌, arith}
use Rattle.std.specs.Prelude.{◌||◌, ◌&&◌, not}
use Rattle.std.specs.List.{list_any}
use Rattle.line_device.specs.Medium.{Medium}
use Rattle.nvm_model.specs.Numbered.{map_from}
use Rattle.nvm_model.specs.Cell.{Cell, zero_cell, CellStands}
use Rattle.nvm_model.specs.Page.{Page, cell_in, cell_of, is_present, presence_of, touches_page, touches_absent, fill_page, fill, PagesStand}
use Rattle.nvm_model.specs.Page.Page.{Absent, Present}
use Rattle.nvm_model.proofs.NumberedLemmas.{slice_get-map_from}
use Rattle.nvm_model.proofs.PageLemmas.{presence_of-map}

-- which pages are there then
pub presence_of-fill : (start len : ℕ) (pages : List Page)
    → presence_of (fill start len pages) ≡ map_from (λ i was. was || touches_page start len i) 0 (presence_of pages)
unfolding fill
presence_of-fill start len pages = presence_of-map (fill_page start len) (λ i was. was || touches_page start len i) 0 pages by_page
  where
    by_page : (i : ℕ) (page : Page) → is_present (fill_page start len i page) ≡ (is_present page || touches_page start len i)
    by_page i Absent = by_test (touches_page start len i)
      where
        by_test : (t : Bool) → is_present (cond t (Present (replicate 64 zero_cell)) Absent) ≡ t
        by_test true = refl
        by_test false = refl
    by_page i (Present cells) = refl

-- where the span touches no absent page nothing is filled
pub fill-nothing : (start len : ℕ) (pages : List Page) → touches_absent start len (presence_of pages) ≡ false → fill start len pages ≡ pages
unfolding fill
fill-nothing start len pages none = from 0 pages none
  where
    rest_false : (a b : Bool) → (a || b) ≡ false → b ≡ false
    rest_false true b is = cc
    rest_false false b is = is

    first_false : (a b : Bool) → (a || b) ≡ false → a ≡ false
    first_false true b is = cc
    first_false false b is = refl

    untouched : (t : Bool) → (t && true) ≡ false → t ≡ false
    untouched true is = cc
    untouched false is = refl

    from : (n : ℕ) (pages : List Page) → list_any (λ lacks. lacks) (map_from (λ i is_there. touches_page start len i && not is_there) n (presence_of pages)) ≡ false
        → map_from (fill_page start len) n pages ≡ pages
    from n [] none = refl
    from n (Absent ∷ pages) none =
        let here = untouched (touches_page start len n) (first_false _ _ none) in
        ap (λ t. cond t (Present (replicate 64 zero_cell)) Absent ∷ map_from (fill_page start len) (suc n) pages) here ∙ ap (λ xs. Absent ∷ xs) (from (suc n) pages (rest_false _ _ none))
    from n (Present cells ∷ pages) none = ap (λ xs. Present cells ∷ xs) (from (suc n) pages (rest_false _ _ none))

-- a page after a fill
page_of-fill : (start len : ℕ) (pages : List Page) (i : ℕ) → slice_get (fill start len pages) i ≡ option_map (fill_page start len i) (slice_get pages i)
unfolding fill
page_of-fill start len pages i = slice_get-map_from (fill_page start len) 0 pages i ∙ ap (λ k. option_map (fill_page start len k) (slice_get pages i)) zero_more
  where
    zero_more : 0 + i ≡ i
    zero_more = omega arith

zero_in : (k : ℕ) (cell : Cell) → slice_get (replicate 64 zero_cell) k ≡ Some cell → cell ≡ zero_cell
zero_in k cell is = in_zeros 64 k is
  where
    in_zeros : (n k : ℕ) → slice_get (replicate n zero_cell) k ≡ Some cell → cell ≡ zero_cell
    in_zeros zero k is = cc
    in_zeros (suc n) zero is = cc
    in_zeros (suc n) (suc k) is = in_zeros n k is

-- Where the lines of the pages that are filled are zeros, the device stands for the filled pages.
pub pages_stand-fill : (place : ℕ → ℕ) (m : Medium) (start len : ℕ) (pages : List Page) → PagesStand place m pages
    → ((n : ℕ) → slice_get pages (n / 64) ≡ Some Absent → touches_page start len (n / 64) ≡ true → CellStands m (place n) zero_cell)
    → PagesStand place m (fill start len pages)
pages_stand-fill place m start len pages stand zeros = record { whole = whole; lines = lines }
  where
    whole : (i : ℕ) (cells : List Cell) → slice_get (fill start len pages) i ≡ Some (Present cells) → length cells ≡ 64
    whole i cells is = by_page (slice_get pages i) refl (sym (page_of-fill start len pages i) ∙ is)
      where
        by_page : (o : Option Page) → slice_get pages i ≡ o → option_map (fill_page start len i) o ≡ Some (Present cells) → length cells ≡ 64
        by_page None was is = cc
        by_page (Some Absent) was is = by_test (touches_page start len i) is
          where
            by_test : (t : Bool) → Some (cond t (Present (replicate 64 zero_cell)) Absent) ≡ Some (Present cells) → length cells ≡ 64
            by_test true is = let same : replicate 64 zero_cell ≡ cells = cc in ap length (sym same)
            by_test false is = cc
        by_page (Some (Present old)) was is = stand.whole i cells (was ∙ is)

    lines : (n : ℕ) (cell : Cell) → cell_of (fill start len pages) n ≡ Some cell → CellStands m (place n) cell
    lines n cell is = by_page (slice_get pages (n / 64)) refl (sym (ap (option_and_then (λ page. cell_in page (n % 64))) (page_of-fill start len pages (n / 64))) ∙ is)
      where
        by_page : (o : Option Page) → slice_get pages (n / 64) ≡ o → option_and_then (λ page. cell_in page (n % 64)) (option_map (fill_page start len (n / 64)) o) ≡ Some cell
            → CellStands m (place n) cell
        by_page None was is = cc
        by_page (Some Absent) was is = by_test (touches_page start len (n / 64)) refl is
          where
            by_test : (t : Bool) → touches_page start len (n / 64) ≡ t → cell_in (cond t (Present (replicate 64 zero_cell)) Absent) (n % 64) ≡ Some cell → CellStands m (place n) cell
            by_test true touched is = subst (CellStands m (place n)) (sym (zero_in (n % 64) cell is)) (zeros n was touched)
            by_test false touched is = cc
        by_page (Some (Present old)) was is = stand.lines n cell (ap (option_and_then (λ page. cell_in page (n % 64))) was ∙ is)
