-- Pages line by line.
use Rattle.std.proofs.Common.{◌≡◌, ℕ, zero, suc, ◌+◌, ◌*◌, ◌/◌, ◌%◌, ◌<◌, ◌≤◌, Bool, true, false, cond, Option, Some, None, option_map, option_and_then, List, [], ◌∷◌, length, slice_get, refl, sym, ap, ◌∙◌, arith}
use Rattle.std.proofs.lemmas.Option.{slice_get-map}
use Rattle.line_device.specs.Panel.{Image}
use Rattle.nvm_model.specs.Numbered.{map_from, list_from, is_among}
use Rattle.nvm_model.specs.Cell.{Cell, put_cell, persist_cell, read_cell}
use Rattle.nvm_model.specs.Cell.Cell.{Bad, Kept}
use Rattle.nvm_model.specs.Page.{Page, map_lines, cell_in, cell_of, is_present, presence_of, fill_page, fill, put, persist, discard_page, discard, read_page, read_pages, bad_cells, bad_lines}
use Rattle.nvm_model.specs.Page.Page.{Absent, Present}
use Rattle.nvm_model.proofs.NumberedLemmas.{slice_get-map_from, slice_get-list_from, length-map_from, length-list_from}

cell_in-map_lines : (f : ℕ → Cell → Cell) (i k : ℕ) (page : Page) → cell_in (map_lines f i page) k ≡ option_map (f (64 * i + k)) (cell_in page k)
cell_in-map_lines f i k Absent = refl
cell_in-map_lines f i k (Present cells) = slice_get-map_from f (64 * i) cells k

-- a line of pages each of whose lines was changed by its number
pub cell_of-map : (f : ℕ → Cell → Cell) (pages : List Page) (n : ℕ) → cell_of (map_from (map_lines f) 0 pages) n ≡ option_map (f n) (cell_of pages n)
cell_of-map f pages n =
    ap (option_and_then (λ page. cell_in page (n % 64))) (slice_get-map_from (map_lines f) 0 pages (n / 64)) ∙ by_page (slice_get pages (n / 64))
  where
    line : 64 * (0 + n / 64) + n % 64 ≡ n
    line = omega arith

    by_page : (page : Option Page) → option_and_then (λ p. cell_in p (n % 64)) (option_map (map_lines f (0 + n / 64)) page)
        ≡ option_map (f n) (option_and_then (λ p. cell_in p (n % 64)) page)
    by_page None = refl
    by_page (Some page) = cell_in-map_lines f (0 + n / 64) (n % 64) page ∙ ap (λ k. option_map (f k) (cell_in page (n % 64))) line

pub cell_of-put : (at : ℕ) (bytes : List ℕ) (pages : List Page) (n : ℕ) → cell_of (put at bytes pages) n ≡ option_map (put_cell at bytes n) (cell_of pages n)
unfolding put
cell_of-put at bytes pages n = cell_of-map (put_cell at bytes) pages n

pub cell_of-persist : (start len : ℕ) (pages : List Page) (n : ℕ) → cell_of (persist start len pages) n ≡ option_map (persist_cell start len n) (cell_of pages n)
unfolding persist
cell_of-persist start len pages n = cell_of-map (persist_cell start len) pages n

-- filling changes no line that is there
pub cell_of-fill : (start len : ℕ) (pages : List Page) (n : ℕ) (cell : Cell) → cell_of pages n ≡ Some cell → cell_of (fill start len pages) n ≡ Some cell
unfolding fill
cell_of-fill start len pages n cell is =
    ap (option_and_then (λ page. cell_in page (n % 64))) (slice_get-map_from (fill_page start len) 0 pages (n / 64)) ∙ by_page (slice_get pages (n / 64)) is
  where
    by_page : (page : Option Page) → option_and_then (λ p. cell_in p (n % 64)) page ≡ Some cell
        → option_and_then (λ p. cell_in p (n % 64)) (option_map (fill_page start len (0 + n / 64)) page) ≡ Some cell
    by_page None is = cc
    by_page (Some Absent) is = cc
    by_page (Some (Present cells)) is = is

-- a discard changes no line that is left
pub cell_of-discard : (first count : ℕ) (pages : List Page) (n : ℕ) (cell : Cell) → cell_of (discard first count pages) n ≡ Some cell → cell_of pages n ≡ Some cell
unfolding discard
cell_of-discard first count pages n cell is =
    by_page (slice_get pages (n / 64)) (sym (ap (option_and_then (λ page. cell_in page (n % 64))) (slice_get-map_from (discard_page first count) 0 pages (n / 64))) ∙ is)
  where
    by_page : (page : Option Page) → option_and_then (λ p. cell_in p (n % 64)) (option_map (discard_page first count (0 + n / 64)) page) ≡ Some cell
        → option_and_then (λ p. cell_in p (n % 64)) page ≡ Some cell
    by_page None is = cc
    by_page (Some page) is = by_test (is_among first count (0 + n / 64)) is
      where
        by_test : (t : Bool) → cell_in (cond t Absent page) (n % 64) ≡ Some cell → cell_in page (n % 64) ≡ Some cell
        by_test true is = cc
        by_test false is = is

-- which pages are there, of pages that were changed by their numbers
pub presence_of-map : (f : ℕ → Page → Page) (g : ℕ → Bool → Bool) (n : ℕ) (pages : List Page) → ((i : ℕ) (page : Page) → is_present (f i page) ≡ g i (is_present page))
    → presence_of (map_from f n pages) ≡ map_from g n (presence_of pages)
presence_of-map f g n [] alike = refl
presence_of-map f g n (page ∷ pages) alike = let head = alike n page in rw head (ap (λ xs. g n (is_present page) ∷ xs) (presence_of-map f g (suc n) pages alike))

pub presence_of-lines : (f : ℕ → Cell → Cell) (n : ℕ) (pages : List Page) → presence_of (map_from (map_lines f) n pages) ≡ presence_of pages
presence_of-lines f n [] = refl
presence_of-lines f n (Absent ∷ pages) = ap (λ xs. false ∷ xs) (presence_of-lines f (suc n) pages)
presence_of-lines f n (Present cells ∷ pages) = ap (λ xs. true ∷ xs) (presence_of-lines f (suc n) pages)

pub presence_of-put : (at : ℕ) (bytes : List ℕ) (pages : List Page) → presence_of (put at bytes pages) ≡ presence_of pages
unfolding put
presence_of-put at bytes pages = presence_of-lines (put_cell at bytes) 0 pages

pub presence_of-persist : (start len : ℕ) (pages : List Page) → presence_of (persist start len pages) ≡ presence_of pages
unfolding persist
presence_of-persist start len pages = presence_of-lines (persist_cell start len) 0 pages

-- a line that is there is that of a page which is there
pub page_of_line : (pages : List Page) (n : ℕ) (cell : Cell) → cell_of pages n ≡ Some cell → slice_get (presence_of pages) (n / 64) ≡ Some true
page_of_line pages n cell is = slice_get-map is_present pages (n / 64) ∙ by_page (slice_get pages (n / 64)) is
  where
    by_page : (o : Option Page) → option_and_then (λ page. cell_in page (n % 64)) o ≡ Some cell → option_map is_present o ≡ Some true
    by_page None is = cc
    by_page (Some Absent) is = cc
    by_page (Some (Present cells)) is = refl

-- what a restart left of pages
pub presence_of-read_pages : (place : ℕ → ℕ) (image : Image) (there : List Bool) → presence_of (read_pages place image there) ≡ there
unfolding read_pages
presence_of-read_pages place image there = from 0 there
  where
    from : (n : ℕ) (there : List Bool) → presence_of (map_from (read_page place image) n there) ≡ there
    from n [] = refl
    from n (true ∷ there) = ap (λ xs. true ∷ xs) (from (suc n) there)
    from n (false ∷ there) = ap (λ xs. false ∷ xs) (from (suc n) there)

-- and of a line of a page that is there
pub cell_of-read_pages : (place : ℕ → ℕ) (image : Image) (there : List Bool) (n : ℕ) → slice_get there (n / 64) ≡ Some true
    → cell_of (read_pages place image there) n ≡ Some (read_cell image (place n))
unfolding read_pages
cell_of-read_pages place image there n is =
    ap (option_and_then (λ page. cell_in page (n % 64))) (slice_get-map_from (read_page place image) 0 there (n / 64) ∙ ap (option_map (read_page place image (0 + n / 64))) is)
    ∙ slice_get-list_from (λ k. read_cell image (place k)) (64 * (0 + n / 64)) 64 (n % 64) (omega arith)
    ∙ ap (λ k. Some (read_cell image (place k))) line
  where
    line : 64 * (0 + n / 64) + n % 64 ≡ n
    line = omega arith

-- no other line is there
pub read_pages-there : (place : ℕ → ℕ) (image : Image) (there : List Bool) (n : ℕ) (cell : Cell) → cell_of (read_pages place image there) n ≡ Some cell
    → slice_get there (n / 64) ≡ Some true
unfolding read_pages
read_pages-there place image there n cell is =
    by_page (slice_get there (n / 64)) (sym (ap (option_and_then (λ page. cell_in page (n % 64))) (slice_get-map_from (read_page place image) 0 there (n / 64))) ∙ is)
  where
    by_page : (o : Option Bool) → option_and_then (λ p. cell_in p (n % 64)) (option_map (read_page place image (0 + n / 64)) o) ≡ Some cell → o ≡ Some true
    by_page None is = cc
    by_page (Some false) is = cc
    by_page (Some true) is = refl

-- each page has all its lines
pub whole-read_pages : (place : ℕ → ℕ) (image : Image) (there : List Bool) (i : ℕ) (cells : List Cell) → slice_get (read_pages place image there) i ≡ Some (Present cells)
    → length cells ≡ 64
unfolding read_pages
whole-read_pages place image there i cells is = by_page (slice_get there i) (sym (slice_get-map_from (read_page place image) 0 there i) ∙ is)
  where
    by_page : (o : Option Bool) → option_map (read_page place image (0 + i)) o ≡ Some (Present cells) → length cells ≡ 64
    by_page None is = cc
    by_page (Some false) is = cc
    by_page (Some true) is =
        let same : list_from (λ n. read_cell image (place n)) (64 * (0 + i)) 64 ≡ cells = cc in
        ap length (sym same) ∙ length-list_from (λ n. read_cell image (place n)) (64 * (0 + i)) 64

-- with no line bad there is no bad cell
bad_cells-none : (place : ℕ → ℕ) (image : Image) (n count : ℕ) → ((k : ℕ) → n ≤ k → k < n + count → image.is_bad (place k) ≡ false)
    → bad_cells (list_from (λ k. read_cell image (place k)) n count) ≡ 0
bad_cells-none place image n zero good = refl
bad_cells-none place image n (suc count) good =
    ap (λ b. bad_cells (cond b Bad (Kept (image.is_weak (place n)) (list_from (λ p. image.word p ∷ []) (8 * place n) 8)) ∷ list_from (λ k. read_cell image (place k)) (suc n) count)) (good n (omega arith) (omega arith))
    ∙ bad_cells-none place image (suc n) count (λ k le lt. good k (omega arith) (omega arith))

bad_lines-from : (place : ℕ → ℕ) (image : Image) (n : ℕ) (there : List Bool) → ((k : ℕ) → 64 * n ≤ k → k < 64 * (n + length there) → image.is_bad (place k) ≡ false)
    → bad_lines (map_from (read_page place image) n there) ≡ 0
bad_lines-from place image n [] good = refl
bad_lines-from place image n (false ∷ there) good = bad_lines-from place image (suc n) there (λ k le lt. good k (omega arith) (omega arith))
bad_lines-from place image n (true ∷ there) good =
    omega (arith, bad_cells-none place image (64 * n) 64 (λ k le lt. good k le (omega arith)), bad_lines-from place image (suc n) there (λ k le lt. good k (omega arith) (omega arith)))

pub bad_lines-none : (place : ℕ → ℕ) (image : Image) (there : List Bool) → ((k : ℕ) → k < 64 * length there → image.is_bad (place k) ≡ false)
    → bad_lines (read_pages place image there) ≡ 0
unfolding read_pages
bad_lines-none place image there good = bad_lines-from place image 0 there (λ k le lt. good k (omega arith))

-- actions keep how many pages there are
pub length-put_fill : (at len : ℕ) (bytes : List ℕ) (pages : List Page) → length (put at bytes (fill at len pages)) ≡ length pages
unfolding put fill
length-put_fill at len bytes pages = length-map_from _ 0 _ ∙ length-map_from _ 0 pages

pub length-fill : (at len : ℕ) (pages : List Page) → length (fill at len pages) ≡ length pages
unfolding fill
length-fill at len pages = length-map_from _ 0 pages

pub length-read_pages : (place : ℕ → ℕ) (image : Image) (there : List Bool) → length (read_pages place image there) ≡ length there
unfolding read_pages
length-read_pages place image there = length-map_from _ 0 there

pub length-discard : (first count : ℕ) (pages : List Page) → length (discard first count pages) ≡ length pages
unfolding discard
length-discard first count pages = length-map_from _ 0 pages

pub length-persist : (start len : ℕ) (pages : List Page) → length (persist start len pages) ≡ length pages
unfolding persist
length-persist start len pages = length-map_from _ 0 pages
