-- Sums over the lines of pages, and numbers of lines counted.
use Rattle.std.proofs.Common.{◌≡◌, ◌≤◌, ◌<◌, ◌+◌, ◌*◌, ◌/◌, ◌%◌, ◌==◌, ℕ, zero, suc, Bool, true, false, cond, count_by, Option, Some, None, option_and_then, List, [], ◌∷◌, length, slice_get, refl, sym, ap, ap₂, subst, ◌∙◌, add-one, inl, inr, arith}
use Rattle.std.specs.List.{filter, range_with_len}
use Rattle.std.proofs.lemmas.Bool.{cases_eq, cases_lt, eq-eqb, ne_eqb}
use Rattle.std.proofs.lemmas.List.Sums.{sum_by-cons}
use Rattle.std.proofs.lemmas.Option.{slice_get_within}
use Rattle.nvm_model.specs.Numbered.{map_from}
use Rattle.nvm_model.specs.Cell.{Cell}
use Rattle.nvm_model.specs.Events.{count_in_page, count_in_pages}
use Rattle.nvm_model.specs.Page.{Page, cell_in, cell_of, map_lines}
use Rattle.nvm_model.specs.Page.Page.{Absent, Present}

-- each page that is there has all its lines
abbrev pub AreWhole : List Page → Type 0
AreWhole pages = (i : ℕ) (cells : List Cell) → slice_get pages i ≡ Some (Present cells) → length cells ≡ 64

abbrev pub one_if : Bool → ℕ
one_if b = cond b 1 0

-- what lines add up to, each of which adds what u says of its number and its cell
abbrev pub of_cells : (ℕ → Cell → ℕ) → ℕ → List Cell → ℕ
of_cells u n [] = 0
of_cells u n (cell ∷ cells) = u n cell + of_cells u (suc n) cells

abbrev pub of_lines : (ℕ → Cell → ℕ) → ℕ → List Page → ℕ
of_lines u i [] = 0
of_lines u i (Absent ∷ pages) = of_lines u (suc i) pages
of_lines u i (Present cells ∷ pages) = of_cells u (64 * i) cells + of_lines u (suc i) pages

-- lines that were changed
cells-map : (u : ℕ → Cell → ℕ) (f : ℕ → Cell → Cell) (n : ℕ) (cells : List Cell) → of_cells u n (map_from f n cells) ≡ of_cells (λ k cell. u k (f k cell)) n cells
cells-map u f n [] = refl
cells-map u f n (cell ∷ cells) = ap (λ m. u n (f n cell) + m) (cells-map u f (suc n) cells)

pub lines-map : (u : ℕ → Cell → ℕ) (f : ℕ → Cell → Cell) (i : ℕ) (pages : List Page)
    → of_lines u i (map_from (map_lines f) i pages) ≡ of_lines (λ k cell. u k (f k cell)) i pages
lines-map u f i [] = refl
lines-map u f i (Absent ∷ pages) = lines-map u f (suc i) pages
lines-map u f i (Present cells ∷ pages) = ap₂ (λ m n. m + n) (cells-map u f (64 * i) cells) (lines-map u f (suc i) pages)

both_less : (a b c d : ℕ) → a ≤ b → c ≤ d → a + c ≤ b + d
both_less a b c d one two = omega (arith, one, two)

-- lines of which each adds no more
cells-less : (u v : ℕ → Cell → ℕ) → ((k : ℕ) (cell : Cell) → u k cell ≤ v k cell) → (n : ℕ) (cells : List Cell) → of_cells u n cells ≤ of_cells v n cells
cells-less u v less n [] = omega arith
cells-less u v less n (cell ∷ cells) = both_less _ _ _ _ (less n cell) (cells-less u v less (suc n) cells)

pub lines-less : (u v : ℕ → Cell → ℕ) → ((k : ℕ) (cell : Cell) → u k cell ≤ v k cell) → (i : ℕ) (pages : List Page) → of_lines u i pages ≤ of_lines v i pages
lines-less u v less i [] = omega arith
lines-less u v less i (Absent ∷ pages) = lines-less u v less (suc i) pages
lines-less u v less i (Present cells ∷ pages) = both_less _ _ _ _ (cells-less u v less (64 * i) cells) (lines-less u v less (suc i) pages)

-- two sums in one
cells-plus : (u v : ℕ → Cell → ℕ) (n : ℕ) (cells : List Cell) → of_cells (λ k cell. u k cell + v k cell) n cells ≡ of_cells u n cells + of_cells v n cells
cells-plus u v n [] = refl
cells-plus u v n (cell ∷ cells) = omega (arith, cells-plus u v (suc n) cells)

pub lines-plus : (u v : ℕ → Cell → ℕ) (i : ℕ) (pages : List Page) → of_lines (λ k cell. u k cell + v k cell) i pages ≡ of_lines u i pages + of_lines v i pages
lines-plus u v i [] = refl
lines-plus u v i (Absent ∷ pages) = lines-plus u v (suc i) pages
lines-plus u v i (Present cells ∷ pages) = omega (arith, cells-plus u v (64 * i) cells, lines-plus u v (suc i) pages)

-- lines that pass a test, counted
cells-count : (passes : Cell → Bool) (n : ℕ) (cells : List Cell) → count_by passes cells ≡ of_cells (λ k cell. one_if (passes cell)) n cells
cells-count passes n [] = refl
cells-count passes n (cell ∷ cells) = sum_by-cons (λ c. one_if (passes c)) cell cells ∙ ap (λ m. one_if (passes cell) + m) (cells-count passes (suc n) cells)

nothing : (n m : ℕ) → n ≡ m → 0 + n ≡ m
nothing n m is = omega (arith, is)

pub lines-count : (passes : Cell → Bool) (i : ℕ) (pages : List Page) → count_in_pages passes pages ≡ of_lines (λ k cell. one_if (passes cell)) i pages
lines-count passes i [] = refl
lines-count passes i (Absent ∷ pages) = sum_by-cons (count_in_page passes) Absent pages ∙ nothing _ _ (lines-count passes (suc i) pages)
lines-count passes i (Present cells ∷ pages) =
    sum_by-cons (count_in_page passes) (Present cells) pages ∙ ap₂ (λ m n. m + n) (cells-count passes (64 * i) cells) (lines-count passes (suc i) pages)

-- one line is that of one number at most
module _ (n : ℕ) where
  abbrev pub here_one : ℕ → Cell → ℕ
  here_one k cell = one_if (k == n)

  cells-below : (k : ℕ) (cells : List Cell) → n < k → of_cells here_one k cells ≡ 0
  cells-below k [] below = refl
  cells-below k (cell ∷ cells) below =
      let head = ne_eqb k n (λ same. omega (arith, same, below)) in
      ap (λ b. one_if b + of_cells here_one (suc k) cells) head ∙ nothing _ _ (cells-below (suc k) cells (omega (arith, below)))

  cells-above : (k : ℕ) (cells : List Cell) → k + length cells ≤ n → of_cells here_one k cells ≡ 0
  cells-above k [] above = refl
  cells-above k (cell ∷ cells) above =
      let head = ne_eqb k n (λ same. omega (arith, same, above)) in
      ap (λ b. one_if b + of_cells here_one (suc k) cells) head ∙ nothing _ _ (cells-above (suc k) cells (omega (arith, above)))

  cells-once : (k : ℕ) (cells : List Cell) → of_cells here_one k cells ≤ 1
  cells-once k [] = omega arith
  cells-once k (cell ∷ cells) =
      elim (cases_eq k n) as (λ _. one_if (k == n) + of_cells here_one (suc k) cells ≤ 1) [
        | inl same ↦ omega (arith, ap one_if (eq-eqb k n same), cells-below (suc k) cells (omega (arith, same)))
        | inr other ↦ omega (arith, ap one_if (ne_eqb k n other), cells-once (suc k) cells)
      ]

  lines-below : (i : ℕ) (pages : List Page) → n < 64 * i → of_lines here_one i pages ≡ 0
  lines-below i [] below = refl
  lines-below i (Absent ∷ pages) below = lines-below (suc i) pages (omega (arith, below))
  lines-below i (Present cells ∷ pages) below = omega (arith, cells-below (64 * i) cells below, lines-below (suc i) pages (omega (arith, below)))

  pub lines-once : (i : ℕ) (pages : List Page) → AreWhole pages → of_lines here_one i pages ≤ 1
  lines-once i [] whole = omega arith
  lines-once i (Absent ∷ pages) whole = lines-once (suc i) pages (λ j. whole (suc j))
  lines-once i (Present cells ∷ pages) whole =
      elim (cases_lt n (64 * suc i)) as (λ _. of_cells here_one (64 * i) cells + of_lines here_one (suc i) pages ≤ 1) [
        | inl low ↦ omega (arith, cells-once (64 * i) cells, lines-below (suc i) pages low)
        | inr high ↦
            omega (arith, cells-above (64 * i) cells (omega (arith, whole zero cells refl, high)), lines-once (suc i) pages (λ j. whole (suc j)))
      ]

-- numbers that pass a test, counted as lines of pages
one_more : (b : Bool) (x : ℕ) (xs : List ℕ) → length (cond b (x ∷ xs) xs) ≡ one_if b + length xs
one_more true x xs = omega arith
one_more false x xs = omega arith

-- the line is there, and passes
abbrev pub passes_at : (ℕ → Cell → Bool) → ℕ → Option Cell → Bool
passes_at test n None = false
passes_at test n (Some cell) = test n cell

numbers-two : (p : ℕ → Bool) (n a b : ℕ)
    → length (filter p (range_with_len n (a + b))) ≡ length (filter p (range_with_len n a)) + length (filter p (range_with_len (n + a) b))
numbers-two p n zero b =
    let e1 : zero + b ≡ b = omega arith in let e2 : n ≡ n + zero = omega arith in
    ap (λ k. length (filter p (range_with_len n k))) e1 ∙ ap (λ k. length (filter p (range_with_len k b))) e2
    ∙ sym (nothing _ _ refl)
numbers-two p n (suc a) b =
    let e1 : suc a + b ≡ suc (a + b) = omega arith in let e2 : n + 1 + a ≡ n + suc a = omega arith in
    ap (λ k. length (filter p (range_with_len n k))) e1 ∙ one_more (p n) n _
    ∙ three (one_if (p n)) _ _ _ (numbers-two p (n + 1) a b ∙ ap (λ k. length (filter p (range_with_len (n + 1) a)) + length (filter p (range_with_len k b))) e2)
    ∙ ap (λ k. k + length (filter p (range_with_len (n + suc a) b))) (sym (one_more (p n) n _))
  where
    three : (a b c s : ℕ) → s ≡ b + c → a + s ≡ a + b + c
    three a b c s is = omega (arith, is)

numbers-none : (p : ℕ → Bool) (n count : ℕ) → ((k : ℕ) → k < count → p (n + k) ≡ false) → length (filter p (range_with_len n count)) ≡ 0
numbers-none p n zero none = refl
numbers-none p n (suc count) none =
    let e : n ≡ n + 0 = omega arith in
    one_more (p n) n _ ∙ ap (λ b. one_if b + length (filter p (range_with_len (n + 1) count))) (ap p e ∙ none 0 (omega arith))
    ∙ nothing _ _ (numbers-none p (n + 1) count (λ k low. let next : n + 1 + k ≡ n + suc k = omega arith in ap p next ∙ none (suc k) (omega (arith, low))))

numbers-cells : (p : ℕ → Bool) (test : ℕ → Cell → Bool) (n : ℕ) (cells : List Cell)
    → ((k : ℕ) (cell : Cell) → slice_get cells k ≡ Some cell → p (n + k) ≡ test (n + k) cell)
    → length (filter p (range_with_len n (length cells))) ≡ of_cells (λ k cell. one_if (test k cell)) n cells
numbers-cells p test n [] alike = refl
numbers-cells p test n (cell ∷ cells) alike =
    one_more (p n) n _
    ∙ ap₂ (λ a b. one_if a + b)
    (subst (λ k. p k ≡ test k cell) e (alike zero cell refl))
    (ap (λ k. length (filter p (range_with_len k (length cells)))) (add-one n)
    ∙ numbers-cells p test (suc n) cells (λ k c found. subst (λ m. p m ≡ test m c) (next k) (alike (suc k) c found)))
  where
    e : n + 0 ≡ n
    e = omega arith

    next : (k : ℕ) → n + suc k ≡ suc n + k
    next k = omega arith

-- those of pages, from the page of a number on
numbers-from : (p : ℕ → Bool) (test : ℕ → Cell → Bool) (i : ℕ) (pages : List Page) → AreWhole pages
    → ((k : ℕ) → p (64 * i + k) ≡ passes_at test (64 * i + k) (cell_of pages k))
    → length (filter p (range_with_len (64 * i) (64 * length pages))) ≡ of_lines (λ k cell. one_if (test k cell)) i pages
numbers-from p test i [] whole alike = refl
numbers-from p test i (page ∷ pages) whole alike =
    let size : 64 * suc (length pages) ≡ 64 + 64 * length pages = omega arith in
    let place : 64 * i + 64 ≡ 64 * suc i = omega arith in
    ap (λ k. length (filter p (range_with_len (64 * i) k))) size ∙ numbers-two p (64 * i) 64 (64 * length pages)
    ∙ ap (λ k. length (filter p (range_with_len (64 * i) 64)) + length (filter p (range_with_len k (64 * length pages)))) place
    ∙ ap (λ m. length (filter p (range_with_len (64 * i) 64)) + m) (numbers-from p test (suc i) pages (λ j. whole (suc j)) later) ∙ by_page page (whole zero) first
  where
    later : (k : ℕ) → p (64 * suc i + k) ≡ passes_at test (64 * suc i + k) (cell_of pages k)
    later k =
        let place : 64 * i + (64 + k) ≡ 64 * suc i + k = omega arith in
        let page_at : (64 + k) / 64 ≡ suc (k / 64) = omega arith in
        let line_at : (64 + k) % 64 ≡ k % 64 = omega arith in
        subst (λ n. p n ≡ passes_at test n (cell_of pages k)) place
        (alike (64 + k) ∙ ap₂ (λ a b. passes_at test (64 * i + (64 + k)) (option_and_then (λ q. cell_in q b) (slice_get (page ∷ pages) a))) page_at line_at)

    first : (k : ℕ) → k < 64 → p (64 * i + k) ≡ passes_at test (64 * i + k) (cell_in page k)
    first k low =
        let page_at : k / 64 ≡ 0 = omega (arith, low) in
        let line_at : k % 64 ≡ k = omega (arith, low) in
        alike k ∙ ap₂ (λ a b. passes_at test (64 * i + k) (option_and_then (λ q. cell_in q b) (slice_get (page ∷ pages) a))) page_at line_at

    by_page : (page : Page) → ((cells : List Cell) → Some page ≡ Some (Present cells) → length cells ≡ 64)
        → ((k : ℕ) → k < 64 → p (64 * i + k) ≡ passes_at test (64 * i + k) (cell_in page k))
        → length (filter p (range_with_len (64 * i) 64)) + of_lines (λ k cell. one_if (test k cell)) (suc i) pages ≡ of_lines (λ k cell. one_if (test k cell)) i (page ∷ pages)
    by_page Absent size is = ap (λ m. m + of_lines (λ k cell. one_if (test k cell)) (suc i) pages) (numbers-none p (64 * i) 64 is) ∙ nothing _ _ refl
    by_page (Present cells) size is =
        let long = size cells refl in
        ap (λ m. m + of_lines (λ k cell. one_if (test k cell)) (suc i) pages)
        (ap (λ m. length (filter p (range_with_len (64 * i) m))) (sym long)
        ∙ numbers-cells p test (64 * i) cells (λ k cell found. is k (omega (arith, slice_get_within cells k cell found, long)) ∙ ap (passes_at test (64 * i + k)) found))

-- and of all of them
pub lines-numbers : (p : ℕ → Bool) (test : ℕ → Cell → Bool) (pages : List Page) → AreWhole pages → ((n : ℕ) → p n ≡ passes_at test n (cell_of pages n))
    → length (filter p (range_with_len 0 (64 * length pages))) ≡ of_lines (λ k cell. one_if (test k cell)) 0 pages
lines-numbers p test pages whole alike =
    numbers-from p test 0 pages whole (λ k. let e : k ≡ 64 * 0 + k = omega arith in subst (λ n. p n ≡ passes_at test n (cell_of pages k)) e (alike k))
