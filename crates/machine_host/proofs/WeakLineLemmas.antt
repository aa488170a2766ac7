-- How many lines of pages are weak, and what changes of the lines make of that.
use Rattle.std.proofs.Common.{◌≡◌, ◌≤◌, ◌+◌, ◌-◌, ◌*◌, ◌&&◌, ◌==◌, ℕ, zero, suc, Bool, true, false, cond, count_by, Option, Some, None, option_map, List, [], ◌∷◌, ◌++◌, length, replicate, take, refl, sym, ap, ap₂, ◌∙◌, arith}
use Rattle.std.specs.List.{filter, range_with_len}
use Rattle.std.proofs.lemmas.List.Sums.{sum_by-cons}
use Rattle.nvm_base.specs.declared.units.Span.{Span}
use Rattle.nvm_model.specs.Numbered.{map_from}
use Rattle.nvm_model.specs.Cell.{Cell, clear_cell, covers, flush_cell, lose_cell, put_cell, weaken_cell, zero_cell}
use Rattle.nvm_model.specs.Cell.Cell.{Bad, Kept}
use Rattle.nvm_model.specs.Events.{count_in_page, count_in_pages, is_weak_cell}
use Rattle.nvm_model.specs.Files.{with_pages}
use Rattle.nvm_model.specs.Page.{Page, at_line, cell_of, change_line, fill, fill_page, is_bad_cell, map_lines, put, touches_page}
use Rattle.nvm_model.specs.Page.Page.{Absent, Present}
use Rattle.nvm_model.specs.Storage.{File}
use Rattle.nvm_model.specs.Touched.{bad_touched, is_bad_touched, next_bad_touched, persist_spans, persist_touched, touches_any}
use Rattle.nvm_model.proofs.NextLemmas.{bad_from-all, bad_from-none}
use Rattle.nvm_model.proofs.SeveralLemmas.{cell_of-spans, length-spans}
use Rattle.machine_host.proofs.LineSumLemmas.{AreWhole, here_one, lines-count, lines-less, lines-map, lines-numbers, lines-once, lines-plus, of_lines, one_if, passes_at}

-- one for a weak line
abbrev weak_one : ℕ → Cell → ℕ
weak_one n cell = one_if (is_weak_cell cell)

-- Pages whose lines were changed have no more weak lines, if no line became weak.
weak-map : (f : ℕ → Cell → Cell) (pages : List Page) → count_in_pages is_weak_cell (map_from (map_lines f) 0 pages) ≡ of_lines (λ k cell. weak_one k (f k cell)) 0 pages
weak-map f pages = lines-count is_weak_cell 0 (map_from (map_lines f) 0 pages) ∙ lines-map weak_one f 0 pages

pub lines-weak : (f : ℕ → Cell → Cell) (pages : List Page) → ((k : ℕ) (cell : Cell) → one_if (is_weak_cell (f k cell)) ≤ one_if (is_weak_cell cell))
    → count_in_pages is_weak_cell (map_from (map_lines f) 0 pages) ≤ count_in_pages is_weak_cell pages
lines-weak f pages less =
    omega (arith, weak-map f pages, lines-less (λ k cell. weak_one k (f k cell)) weak_one less 0 pages, lines-count is_weak_cell 0 pages)

-- and as many if each line is as it was
pub lines-weak_same : (f : ℕ → Cell → Cell) (pages : List Page) → ((k : ℕ) (cell : Cell) → is_weak_cell (f k cell) ≡ is_weak_cell cell)
    → count_in_pages is_weak_cell (map_from (map_lines f) 0 pages) ≡ count_in_pages is_weak_cell pages
lines-weak_same f pages same =
    weak-map f pages ∙ ap (λ (u : ℕ → Cell → ℕ). of_lines u 0 pages) (λ i k cell. one_if (same k cell i)) ∙ sym (lines-count is_weak_cell 0 pages)

pub put-weak : (at : ℕ) (bytes : List ℕ) (pages : List Page) → count_in_pages is_weak_cell (put at bytes pages) ≡ count_in_pages is_weak_cell pages
unfolding put
put-weak at bytes pages = lines-weak_same (put_cell at bytes) pages by_cell
  where
    by_cell : (n : ℕ) (cell : Cell) → is_weak_cell (put_cell at bytes n cell) ≡ is_weak_cell cell
    by_cell n Bad = by_test (covers at (length bytes) n) _
      where
        by_test : (t : Bool) (words : List (List ℕ)) → is_weak_cell (cond t (Kept false words) Bad) ≡ false
        by_test true words = refl
        by_test false words = refl
    by_cell n (Kept weak words) = refl

-- zeros are not weak
zeros-weak : (n : ℕ) → count_by is_weak_cell (replicate n zero_cell) ≡ 0
zeros-weak zero = refl
zeros-weak (suc n) = omega (arith, sum_by-cons (λ cell. one_if (is_weak_cell cell)) zero_cell (replicate n zero_cell), zeros-weak n)

pub fill-weak : (start len : ℕ) (pages : List Page) → count_in_pages is_weak_cell (fill start len pages) ≡ count_in_pages is_weak_cell pages
unfolding fill
fill-weak start len pages = from 0 pages
  where
    by_page : (i : ℕ) (page : Page) → count_in_page is_weak_cell (fill_page start len i page) ≡ count_in_page is_weak_cell page
    by_page i Absent = by_test (touches_page start len i)
      where
        by_test : (t : Bool) → count_in_page is_weak_cell (cond t (Present (replicate 64 zero_cell)) Absent) ≡ 0
        by_test true = zeros-weak 64
        by_test false = refl
    by_page i (Present cells) = refl

    from : (i : ℕ) (pages : List Page) → count_in_pages is_weak_cell (map_from (fill_page start len) i pages) ≡ count_in_pages is_weak_cell pages
    from i [] = refl
    from i (page ∷ pages) =
        sum_by-cons (count_in_page is_weak_cell) (fill_page start len i page) (map_from (fill_page start len) (suc i) pages)
        ∙ ap₂ (λ m n. m + n) (by_page i page) (from (suc i) pages) ∙ sym (sum_by-cons (count_in_page is_weak_cell) page pages)

pub lose-weak : (n : ℕ) (pages : List Page) → count_in_pages is_weak_cell (change_line lose_cell n pages) ≤ count_in_pages is_weak_cell pages
unfolding change_line
lose-weak n pages = lines-weak (at_line lose_cell n) pages (λ k cell. by_test (k == n) cell)
  where
    by_test : (t : Bool) (cell : Cell) → one_if (is_weak_cell (cond t Bad cell)) ≤ one_if (is_weak_cell cell)
    by_test true cell = omega arith
    by_test false cell = omega arith

pub clear-weak : (n : ℕ) (pages : List Page) → count_in_pages is_weak_cell (change_line clear_cell n pages) ≡ count_in_pages is_weak_cell pages
unfolding change_line
clear-weak n pages = lines-weak_same (at_line clear_cell n) pages (λ k cell. by_test (k == n) cell)
  where
    by_test : (t : Bool) (cell : Cell) → is_weak_cell (cond t (clear_cell cell) cell) ≡ is_weak_cell cell
    by_test true Bad = refl
    by_test true (Kept weak words) = refl
    by_test false cell = refl

pub weaken-weak : (n : ℕ) (pages : List Page) → AreWhole pages
    → count_in_pages is_weak_cell (change_line weaken_cell n pages) ≤ count_in_pages is_weak_cell pages + 1
unfolding change_line
weaken-weak n pages whole =
    omega (
      arith,
      weak-map (at_line weaken_cell n) pages,
      lines-less (λ k cell. weak_one k (at_line weaken_cell n k cell)) (λ k cell. weak_one k cell + here_one n k cell) (λ k cell. by_test (k == n) cell) 0 pages,
      lines-plus weak_one (here_one n) 0 pages,
      lines-count is_weak_cell 0 pages,
      lines-once n 0 pages whole,
    )
  where
    by_test : (t : Bool) (cell : Cell) → one_if (is_weak_cell (cond t (weaken_cell cell) cell)) ≤ one_if (is_weak_cell cell) + one_if t
    by_test true Bad = omega arith
    by_test true (Kept weak words) = omega arith
    by_test false cell = omega arith

-- the bad lines that spans touch, of pages whose lines were changed
abbrev bad_one : List Span → ℕ → Cell → ℕ
bad_one spans n cell = one_if (touches_any spans n && is_bad_cell (Some cell))

bad_touched-count : (spans : List Span) (f : ℕ → Cell → Cell) (pages after : List Page) → AreWhole pages → length after ≡ length pages
    → ((n : ℕ) → cell_of after n ≡ option_map (f n) (cell_of pages n))
    → length (bad_touched spans after) ≡ of_lines (λ n cell. bad_one spans n (f n cell)) 0 pages
unfolding bad_touched
bad_touched-count spans f pages after whole long each =
    ap (λ k. length (filter (is_bad_touched spans after) (range_with_len 0 (64 * k)))) long
    ∙ lines-numbers (is_bad_touched spans after) test pages whole (λ n. ap (λ o. touches_any spans n && is_bad_cell o) (each n) ∙ by_cell n (cell_of pages n))
  where
    test : ℕ → Cell → Bool
    test n cell = touches_any spans n && is_bad_cell (Some (f n cell))

    never : (t : Bool) → (t && false) ≡ false
    never true = refl
    never false = refl

    by_cell : (n : ℕ) (o : Option Cell) → (touches_any spans n && is_bad_cell (option_map (f n) o)) ≡ passes_at test n o
    by_cell n None = never (touches_any spans n)
    by_cell n (Some cell) = refl

spans-weak : (spans : List Span) (pages : List Page)
    → count_in_pages is_weak_cell (persist_spans spans pages) ≡ of_lines (λ k cell. weak_one k (persist_touched spans k cell)) 0 pages
unfolding persist_spans
spans-weak spans pages = weak-map (persist_touched spans) pages

-- A weak line that is made durable becomes a bad one, and so the weak lines and the bad ones that the spans touch stay as many.
pub persist-weak_same : (spans : List Span) (pages : List Page) → AreWhole pages
    → count_in_pages is_weak_cell (persist_spans spans pages) + length (bad_touched spans (persist_spans spans pages))
    ≡ count_in_pages is_weak_cell pages + length (bad_touched spans pages)
persist-weak_same spans pages whole =
    ap₂ (λ m n. m + n) (spans-weak spans pages)
    (bad_touched-count spans (persist_touched spans) pages (persist_spans spans pages) whole (length-spans spans pages) (cell_of-spans spans pages))
    ∙ sym (lines-plus (λ n cell. weak_one n (persist_touched spans n cell)) (λ n cell. bad_one spans n (persist_touched spans n cell)) 0 pages)
    ∙ ap (λ (u : ℕ → Cell → ℕ). of_lines u 0 pages) (λ i n cell. by_test (touches_any spans n) cell i)
    ∙ lines-plus weak_one (bad_one spans) 0 pages
    ∙ sym (ap₂ (λ m n. m + n) (lines-count is_weak_cell 0 pages) (bad_touched-count spans (λ n cell. cell) pages pages whole refl (λ n. kept (cell_of pages n))))
  where
    kept : (o : Option Cell) → o ≡ option_map (λ cell. cell) o
    kept None = refl
    kept (Some cell) = refl

    by_test : (t : Bool) (cell : Cell)
        → one_if (is_weak_cell (cond t (flush_cell cell) cell)) + one_if (t && is_bad_cell (Some (cond t (flush_cell cell) cell)))
        ≡ one_if (is_weak_cell cell) + one_if (t && is_bad_cell (Some cell))
    by_test true Bad = refl
    by_test true (Kept true words) = refl
    by_test true (Kept false words) = refl
    by_test false cell = refl

pub persist-weak : (spans : List Span) (pages : List Page) → AreWhole pages
    → count_in_pages is_weak_cell (persist_spans spans pages) + length (bad_touched spans (persist_spans spans pages))
    ≤ count_in_pages is_weak_cell pages + length (bad_touched spans pages)
persist-weak spans pages whole = omega (arith, persist-weak_same spans pages whole)

-- where no line was bad before
pub persist-weak_none : (spans : List Span) (pages : List Page) → AreWhole pages → bad_touched spans pages ≡ []
    → count_in_pages is_weak_cell (persist_spans spans pages) + length (bad_touched spans (persist_spans spans pages)) ≤ count_in_pages is_weak_cell pages
persist-weak_none spans pages whole none = omega (arith, persist-weak spans pages whole, ap length none)

pub persist-weak_found : (spans : List Span) (pages : List Page) → AreWhole pages → next_bad_touched spans pages 0 ≡ None
    → count_in_pages is_weak_cell (persist_spans spans pages) + length (bad_touched spans (persist_spans spans pages)) ≤ count_in_pages is_weak_cell pages
persist-weak_found spans pages whole none = persist-weak_none spans pages whole (sym (bad_from-all spans pages) ∙ bad_from-none spans pages 0 none)

pub persist-thins : (spans : List Span) (pages : List Page) → count_in_pages is_weak_cell (persist_spans spans pages) ≤ count_in_pages is_weak_cell pages
unfolding persist_spans
persist-thins spans pages = lines-weak (persist_touched spans) pages (λ k cell. by_test (touches_any spans k) cell)
  where
    by_test : (t : Bool) (cell : Cell) → one_if (is_weak_cell (cond t (flush_cell cell) cell)) ≤ one_if (is_weak_cell cell)
    by_test true Bad = omega arith
    by_test true (Kept true words) = omega arith
    by_test true (Kept false words) = omega arith
    by_test false cell = omega arith

-- holes have no weak line
pub holes-weak : (n : ℕ) → count_in_pages is_weak_cell (replicate n Absent) ≡ 0
holes-weak zero = refl
holes-weak (suc n) = omega (arith, sum_by-cons (count_in_page is_weak_cell) Absent (replicate n Absent), holes-weak n)

pub resize-weak : (n : ℕ) (file : File) → count_in_pages is_weak_cell ((with_pages n file).pages) ≤ count_in_pages is_weak_cell file.pages
resize-weak n file = resized n file.pages
  where
    resized : (n : ℕ) (pages : List Page) → count_in_pages is_weak_cell (take n pages ++ replicate (n - length pages) Absent) ≤ count_in_pages is_weak_cell pages
    resized zero pages = omega (arith, holes-weak (0 - length pages))
    resized (suc n) [] = omega (arith, holes-weak (suc n - 0))
    resized (suc n) (page ∷ pages) =
        let e : suc n - suc (length pages) ≡ n - length pages = omega arith in
        let cut = take n pages ++ replicate (n - length pages) Absent in
        omega (
          arith,
          ap (λ k. count_in_pages is_weak_cell (page ∷ take n pages ++ replicate k Absent)) e,
          sum_by-cons (count_in_page is_weak_cell) page cut,
          sum_by-cons (count_in_page is_weak_cell) page pages,
          resized n pages,
        )
