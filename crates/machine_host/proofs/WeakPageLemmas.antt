-- Pages that are rewritten durably, or that become holes, have no more weak lines than they had.
use Rattle.std.proofs.Common.{◌≡◌, ◌≤◌, ◌*◌, ℕ, zero, suc, Bool, true, false, cond, count_by, List, [], ◌∷◌, refl, arith}
use Rattle.std.proofs.lemmas.List.Sums.{sum_by-cons}
use Rattle.nvm_base.specs.declared.units.Span.{Span}
use Rattle.nvm_model.specs.Cell.{Cell}
use Rattle.nvm_model.specs.Events.{count_in_page, count_in_pages, is_weak_cell}
use Rattle.nvm_model.specs.Numbered.{is_among, list_from, map_from}
use Rattle.nvm_model.specs.Page.{Page, byte_in, discard, discard_page}
use Rattle.nvm_model.specs.Page.Page.{Absent, Present}
use Rattle.file_actions.specs.Rewriting.{byte_laid, durable_line, rewritten, rewritten_page, touches_any_page}
use Rattle.machine_host.proofs.LineSumLemmas.{one_if}

pages-weak : (f : ℕ → Page → Page) → ((i : ℕ) (page : Page) → count_in_page is_weak_cell (f i page) ≤ count_in_page is_weak_cell page)
    → (i : ℕ) (pages : List Page) → count_in_pages is_weak_cell (map_from f i pages) ≤ count_in_pages is_weak_cell pages
pages-weak f less i [] = omega arith
pages-weak f less i (page ∷ pages) =
    omega (
      arith,
      sum_by-cons (count_in_page is_weak_cell) (f i page) (map_from f (suc i) pages),
      sum_by-cons (count_in_page is_weak_cell) page pages,
      less i page,
      pages-weak f less (suc i) pages,
    )

-- durable lines are not weak
durable-weak : (byte : ℕ → ℕ) (n count : ℕ) → count_by is_weak_cell (list_from (durable_line byte) n count) ≡ 0
durable-weak byte n zero = refl
durable-weak byte n (suc count) =
    omega (arith, sum_by-cons (λ cell. one_if (is_weak_cell cell)) (durable_line byte n) (list_from (durable_line byte) (suc n) count), durable-weak byte (suc n) count)

chosen-weak : (cells : List Cell) (page : Page) → count_by is_weak_cell cells ≡ 0 → (t : Bool) → count_in_page is_weak_cell (cond t (Present cells) page) ≤ count_in_page is_weak_cell page
chosen-weak cells page none true = omega (arith, none)
chosen-weak cells page none false = omega arith

pub rewritten-weak : (ranges : List Span) (bytes : List ℕ) (pages : List Page) → count_in_pages is_weak_cell (rewritten ranges bytes pages) ≤ count_in_pages is_weak_cell pages
unfolding rewritten
rewritten-weak ranges bytes pages =
    pages-weak (rewritten_page ranges bytes pages)
    (λ i page. chosen-weak _ page (durable-weak (λ at. byte_laid ranges bytes at (byte_in pages at)) (64 * i) 64) (touches_any_page ranges i)) 0 pages

pub discard-weak : (first count : ℕ) (pages : List Page) → count_in_pages is_weak_cell (discard first count pages) ≤ count_in_pages is_weak_cell pages
unfolding discard
discard-weak first count pages = pages-weak (discard_page first count) (λ i page. by_test page (is_among first count i)) 0 pages
  where
    by_test : (page : Page) (t : Bool) → count_in_page is_weak_cell (cond t Absent page) ≤ count_in_page is_weak_cell page
    by_test page true = omega arith
    by_test page false = omega arith
