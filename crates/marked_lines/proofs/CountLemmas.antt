-- Marked lines, counted.
use Rattle.std.proofs.Common.{◌≡◌, ℕ, zero, suc, ◌+◌, ◌*◌, ◌/◌, ◌%◌, ◌<◌, ◌&&◌, Bool, not, cond, count_by, sum_by, Some, option_and_then, List, [], ◌∷◌, length, slice_get, refl, sym, ap, ap₂, subst, ◌∙◌, arith}
use Rattle.std.specs.List.{range_with_len}
use Rattle.std.proofs.lemmas.List.Sums.{sum_by-cons}
use Rattle.std.proofs.lemmas.Option.{slice_get_within}
use Rattle.line_device.specs.Medium.{Medium}
use Rattle.nvm_model.specs.Cell.{Cell, CellStands}
use Rattle.nvm_model.specs.Cell.Cell.{Bad, Kept}
use Rattle.nvm_model.specs.Events.{count_in_files, count_in_page, count_in_pages}
use Rattle.nvm_model.specs.Files.{bad_file_lines, bad_lines_of}
use Rattle.nvm_model.specs.Storage.{File}
use Rattle.nvm_model.specs.Page.{Page, PagesStand, bad_cells, bad_lines, cell_in, cell_of}
use Rattle.nvm_model.specs.Page.Page.{Absent, Present}
use Rattle.marked_lines.specs.declared.mark.Mark.{Mark}
use Rattle.marked_lines.specs.declared.mark.Mark.TheVariants as mark
use Rattle.marked_lines.specs.Counting.{bad_in_page, cell_has, has_mark}

add_on : (c x y w : ℕ) → x ≡ y + w → c + x ≡ c + y + w
add_on c x y w is = omega arith

swap : (n : ℕ) → n + 0 ≡ 0 + n
swap n = omega arith

-- one item more at the front
pub count-cons : {A : Type 0} (p : A → Bool) (x : A) (xs : List A) → count_by p (x ∷ xs) ≡ cond (p x) 1 0 + count_by p xs
count-cons p x xs = sum_by-cons (λ y. cond (p y) 1 0) x xs

count-suc : (p : ℕ → Bool) (a n : ℕ) → count_by p (range_with_len a (suc n)) ≡ count_by p (range_with_len a n) + cond (p (a + n)) 1 0
count-suc p a zero =
    let e : a + 0 ≡ a = omega arith in
    count-cons p a [] ∙ subst (λ x. cond (p a) 1 0 + 0 ≡ 0 + cond (p x) 1 0) (sym e) (swap (cond (p a) 1 0))
count-suc p a (suc n) =
    let e : a + 1 + n ≡ a + suc n = omega arith in
    count-cons p a (range_with_len (a + 1) (suc n))
    ∙ add_on (cond (p a) 1 0) (count_by p (range_with_len (a + 1) (suc n))) (count_by p (range_with_len (a + 1) n)) (cond (p (a + suc n)) 1 0)
    (subst (λ x. count_by p (range_with_len (a + 1) (suc n)) ≡ count_by p (range_with_len (a + 1) n) + cond (p x) 1 0) e (count-suc p (a + 1) n))
    ∙ ap (λ k. k + cond (p (a + suc n)) 1 0) (sym (count-cons p a (range_with_len (a + 1) n)))

one_more : (x y : ℕ) → x ≡ y → suc x ≡ 1 + y
one_more x y is = omega arith

no_more : (x y : ℕ) → x ≡ y → x ≡ 0 + y
no_more x y is = omega arith

-- one line more
pub count-next : (p : ℕ → Bool) (a n : ℕ) (b : Bool) → p (a + n) ≡ b → count_by p (range_with_len a (n + 1)) ≡ count_by p (range_with_len a n) + cond b 1 0
count-next p a n b is =
    let e : suc n ≡ n + 1 = omega arith in
    subst (λ k. count_by p (range_with_len a k) ≡ count_by p (range_with_len a n) + cond b 1 0) e
    (count-suc p a n ∙ ap (λ t. count_by p (range_with_len a n) + cond t 1 0) is)

-- bad cells are those that have the mark
pub bad_cells-count : (cells : List Cell) → bad_cells cells ≡ count_by (cell_has mark.Bad) cells
bad_cells-count [] = refl
bad_cells-count (Bad ∷ cells) = one_more _ _ (bad_cells-count cells) ∙ sym (count-cons (cell_has mark.Bad) Bad cells)
bad_cells-count (Kept weak words ∷ cells) = no_more _ _ (bad_cells-count cells) ∙ sym (count-cons (cell_has mark.Bad) (Kept weak words) cells)

-- a line has the mark that its cell has
cell-marked : (kind : Mark) (m : Medium) (line : ℕ) (cell : Cell) → CellStands m line cell → cell_has kind cell ≡ has_mark kind m line
cell-marked mark.Bad m line Bad stands = sym stands
cell-marked mark.Bad m line (Kept weak words) stands = sym stands.0
cell-marked mark.Weak m line Bad stands = sym (ap (λ b. not b && m.is_weak line) stands)
cell-marked mark.Weak m line (Kept weak words) stands = sym (ap (λ b. not b && m.is_weak line) stands.0 ∙ stands.1)

-- lines that stand for cells
cells_marked : (kind : Mark) (m : Medium) (first : ℕ) (cells : List Cell) → ((k : ℕ) (cell : Cell) → slice_get cells k ≡ Some cell → CellStands m (first + k) cell)
    → count_by (cell_has kind) cells ≡ count_by (has_mark kind m) (range_with_len first (length cells))
cells_marked kind m first [] stands = refl
cells_marked kind m first (x ∷ cells) stands =
    count-cons (cell_has kind) x cells
    ∙ ap₂ (λ b k. cond b 1 0 + k) (cell-marked kind m (first + 0) x (stands 0 x refl) ∙ ap (has_mark kind m) e) (cells_marked kind m (first + 1) cells next)
    ∙ sym (count-cons (has_mark kind m) first (range_with_len (first + 1) (length cells)))
  where
    e : first + 0 ≡ first
    e = omega arith

    next : (k : ℕ) (cell : Cell) → slice_get cells k ≡ Some cell → CellStands m (first + 1 + k) cell
    next k cell is = let more : first + suc k ≡ first + 1 + k = omega arith in subst (λ n. CellStands m n cell) more (stands (suc k) cell is)

-- a page that is there, whose lines lie from a line on
pub lines_marked : (kind : Mark) (place : ℕ → ℕ) (m : Medium) (pages : List Page) (page line : ℕ) (cells : List Cell) → PagesStand place m pages
    → slice_get pages page ≡ Some (Present cells) → ((k : ℕ) → k < 64 → place (64 * page + k) ≡ line + k)
    → count_by (cell_has kind) cells ≡ count_by (has_mark kind m) (range_with_len line 64)
lines_marked kind place m pages page line cells stand was places =
    cells_marked kind m line cells each ∙ ap (λ n. count_by (has_mark kind m) (range_with_len line n)) (stand.whole page cells was)
  where
    each : (k : ℕ) (cell : Cell) → slice_get cells k ≡ Some cell → CellStands m (line + k) cell
    each k cell found =
        let small : k < 64 = omega (arith, slice_get_within cells k cell found, stand.whole page cells was) in
        let at : (64 * page + k) / 64 ≡ page = omega (arith, small) in
        let inside : (64 * page + k) % 64 ≡ k = omega (arith, small) in
        let is : cell_of pages (64 * page + k) ≡ Some cell =
        ap (λ i. option_and_then (λ p. cell_in p ((64 * page + k) % 64)) (slice_get pages i)) at
        ∙ ap (option_and_then (λ p. cell_in p ((64 * page + k) % 64))) was
        ∙ ap (slice_get cells) inside ∙ found in
        subst (λ n. CellStands m n cell) (places k small) (stand.lines (64 * page + k) cell is)

-- all pages
pub bad_lines-sum : (pages : List Page) → bad_lines pages ≡ sum_by bad_in_page pages
bad_lines-sum [] = refl
bad_lines-sum (Absent ∷ pages) = no_more _ _ (bad_lines-sum pages) ∙ sym (sum_by-cons bad_in_page Absent pages)
bad_lines-sum (Present cells ∷ pages) = ap (λ n. bad_cells cells + n) (bad_lines-sum pages) ∙ sym (sum_by-cons bad_in_page (Present cells) pages)

bad_page-count : (page : Page) → bad_in_page page ≡ count_in_page (cell_has mark.Bad) page
bad_page-count Absent = refl
bad_page-count (Present cells) = bad_cells-count cells

-- and all files
pub bad_files-count : (files : List File) → bad_file_lines files ≡ count_in_files (cell_has mark.Bad) files
bad_files-count files = ap (λ f. sum_by f files) (λ i file. of_file file i)
  where
    of_file : (file : File) → bad_lines_of file ≡ count_in_pages (cell_has mark.Bad) file.pages
    of_file file = bad_lines-sum file.pages ∙ ap (λ f. sum_by f file.pages) (λ i page. bad_page-count page i)
