-- Pages whose lines an image has.
use Rattle.std.proofs.Common.{◌≡◌, ℕ, zero, suc, ◌+◌, ◌*◌, ◌/◌, ◌%◌, ◌<◌, Option, Some, None, option_map, option_and_then, List, [], ◌∷◌, length, slice_get, refl, sym, ap, ap₂, subst, ◌∙◌, arith}
use Rattle.std.proofs.lemmas.List.{length-map}
use Rattle.std.proofs.lemmas.Option.{slice_get-map}
use Rattle.line_device.specs.Panel.{Image}
use Rattle.nvm_model.specs.Numbered.{list_from}
use Rattle.nvm_model.specs.Cell.{Cell, read_cell}
use Rattle.nvm_model.specs.Page.{Page, cell_in, cell_of, is_present, presence_of, read_page, read_pages}
use Rattle.nvm_model.specs.Page.Page.{Absent, Present}
use Rattle.nvm_model.proofs.NumberedLemmas.{length-list_from, length-map_from, slice_get-list_from, slice_get-map_from}
use Rattle.state_images.specs.Storable.{AreSettled, ArePagesSettled, IsPageSettled, IsSettled}
use Rattle.state_images.proofs.CellLemmas.{same_items, some_item}

pub page-settled : (pages : List Page) (i : ℕ) (page : Page) → ArePagesSettled pages → slice_get pages i ≡ Some page → IsPageSettled page
page-settled [] i page all is = cc
page-settled (first ∷ pages) zero page all is = let same : first ≡ page = cc in subst IsPageSettled same all.0
page-settled (first ∷ pages) (suc i) page all is = page-settled pages i page all.1 is

pub line-settled : (cells : List Cell) (k : ℕ) (cell : Cell) → AreSettled cells → slice_get cells k ≡ Some cell → IsSettled cell
line-settled [] k cell all is = cc
line-settled (first ∷ cells) zero cell all is = let same : first ≡ cell = cc in subst IsSettled same all.0
line-settled (first ∷ cells) (suc k) cell all is = line-settled cells k cell all.1 is

-- a line of a page that is there
pub line-of_page : (pages : List Page) (i k : ℕ) (cells : List Cell) (cell : Cell) → slice_get pages i ≡ Some (Present cells) → slice_get cells k ≡ Some cell → k < 64
    → cell_of pages (64 * i + k) ≡ Some cell
line-of_page pages i k cells cell page is below =
    let at : (64 * i + k) / 64 ≡ i = omega arith in
    let rest : (64 * i + k) % 64 ≡ k = omega arith in
    ap₂ (λ (j l : ℕ). option_and_then (λ page. cell_in page l) (slice_get pages j)) at rest
    ∙ ap (option_and_then (λ page. cell_in page k)) page ∙ is

-- and whose it is
pub page-of_line : (pages : List Page) (n : ℕ) (cell : Cell) → cell_of pages n ≡ Some cell
    → (cells : List Cell) × (slice_get pages (n / 64) ≡ Some (Present cells)) × (slice_get cells (n % 64) ≡ Some cell)
page-of_line pages n cell is = by_page (slice_get pages (n / 64)) refl is
  where
    by_page : (o : Option Page) → slice_get pages (n / 64) ≡ o → option_and_then (λ page. cell_in page (n % 64)) o ≡ Some cell
        → (cells : List Cell) × (slice_get pages (n / 64) ≡ Some (Present cells)) × (slice_get cells (n % 64) ≡ Some cell)
    by_page None was is = cc
    by_page (Some Absent) was is = cc
    by_page (Some (Present cells)) was is = (cells, was, is)

pub settled-line : (pages : List Page) (n : ℕ) (cell : Cell) → ArePagesSettled pages → cell_of pages n ≡ Some cell → IsSettled cell
settled-line pages n cell all is =
    let page = page-of_line pages n cell is in
    line-settled page.0 (n % 64) cell (page-settled pages (n / 64) (Present page.0) all page.1).1 page.2

-- pages each of whose lines reads as it is read as they are
module _ (place : ℕ → ℕ) (image : Image) (pages : List Page) (settled : ArePagesSettled pages)
    (lines : (n : ℕ) (cell : Cell) → cell_of pages n ≡ Some cell → read_cell image (place n) ≡ cell) where
  cells-read : (i : ℕ) (cells : List Cell) → slice_get pages i ≡ Some (Present cells) → list_from (λ n. read_cell image (place n)) (64 * i) 64 ≡ cells
  cells-read i cells is =
      let size : length cells ≡ 64 = (page-settled pages i (Present cells) settled is).0 in
      same_items _ cells (length-list_from (λ n. read_cell image (place n)) (64 * i) 64 ∙ sym size) (λ k low.
      let below : k < 64 = omega (arith, low, length-list_from (λ n. read_cell image (place n)) (64 * i) 64) in
      elim (slice_get cells k) as (λ o. slice_get cells k ≡ o → slice_get (list_from (λ n. read_cell image (place n)) (64 * i) 64) k ≡ o) [
        | None ↦ λ none. absurd (some_item cells k (omega arith) none)
        | Some cell ↦ λ here.
            slice_get-list_from (λ n. read_cell image (place n)) (64 * i) 64 k below
            ∙ ap Some (lines (64 * i + k) cell (line-of_page pages i k cells cell is here below))
      ] refl)

  page-read : (i : ℕ) (o : Option Page) → slice_get pages i ≡ o → option_map (read_page place image i) (option_map is_present o) ≡ o
  page-read i None is = refl
  page-read i (Some Absent) is = refl
  page-read i (Some (Present cells)) is = ap (λ (cs : List Cell). Some (Present cs)) (cells-read i cells is)

  pub pages-read : read_pages place image (presence_of pages) ≡ pages
  unfolding read_pages
  pages-read =
      same_items _ pages (length-map_from (read_page place image) 0 (presence_of pages) ∙ length-map pages is_present) (λ k low.
      let e : 0 + k ≡ k = omega arith in
      slice_get-map_from (read_page place image) 0 (presence_of pages) k
      ∙ ap (λ (j : ℕ). option_map (read_page place image j) (slice_get (presence_of pages) k)) e
      ∙ ap (option_map (read_page place image k)) (slice_get-map is_present pages k)
      ∙ page-read k (slice_get pages k) refl)
