-- Pages that are there, and a line of zeros.
use Rattle.std.proofs.Common.{◌≡◌, ℕ, zero, suc, ◌/◌, ◌%◌, ◌<◌, Bool, false, Option, Some, None, option_and_then, List, [], ◌∷◌, replicate, slice_get, slice_index_or, refl, sym, ◌∙◌, arith}
use Rattle.nvm_model.specs.Cell.{Cell, zero_cell}
use Rattle.nvm_model.specs.Page.{Page, cell_in, cell_of, is_present, presence_of}
use Rattle.nvm_model.specs.Page.Page.{Absent, Present}
use Rattle.durable.specs.Place.{is_line_present}

-- whether a page is there
abbrev pub has_lines : Option Page → Bool
has_lines None = false
has_lines (Some page) = is_present page

pub page_present : (pages : List Page) (n : ℕ) → is_line_present pages n ≡ has_lines (slice_get pages (n / 64))
page_present pages n = at_index pages (n / 64)
  where
    at_index : (pages : List Page) (k : ℕ) → slice_index_or (presence_of pages) k false ≡ has_lines (slice_get pages k)
    at_index [] k = refl
    at_index (page ∷ pages) zero = refl
    at_index (page ∷ pages) (suc k) = at_index pages k

-- a line of a page
abbrev pub line_in : ℕ → Option Page → Option Cell
line_in n o = option_and_then (λ page. cell_in page (n % 64)) o

-- an absent page has no line
pub absent_line : (pages : List Page) (n : ℕ) → is_line_present pages n ≡ false → cell_of pages n ≡ None
absent_line pages n absent = by_page (slice_get pages (n / 64)) (sym (page_present pages n) ∙ absent)
  where
    by_page : (o : Option Page) → has_lines o ≡ false → line_in n o ≡ None
    by_page None none = refl
    by_page (Some Absent) none = refl
    by_page (Some (Present cells)) there = cc there

pub zero_at : (count k : ℕ) → k < count → slice_get (replicate count zero_cell) k ≡ Some zero_cell
zero_at zero k lt = absurd (omega arith)
zero_at (suc count) zero lt = refl
zero_at (suc count) (suc k) lt = zero_at count k (omega arith)
