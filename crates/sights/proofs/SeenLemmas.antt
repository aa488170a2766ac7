-- What is made of pages, line by line as reads see them.
use Rattle.std.proofs.Common.{◌≡◌, ℕ, zero, suc, ◌+◌, ◌*◌, ◌/◌, ◌%◌, ◌<◌, ◌≤◌, ◌==◌, ◌&&◌, nat_le, nat_lt, Bool, true, false, cond, Option, Some, None, option_map, List, [], ◌∷◌, ◌++◌, length, replicate, slice_get, refl, sym, ap, ◌∙◌, arith}
use Rattle.std.proofs.lemmas.Bool.{eqb-true}
use Rattle.line_device.specs.Medium.{word_stored}
use Rattle.line_device.specs.Word.{reaches, word_over}
use Rattle.nvm_model.specs.Cell.{Cell, flush_cell, persist_cell, put_cell, touches, zero_cell}
use Rattle.nvm_model.specs.Cell.Cell.{Kept}
use Rattle.nvm_model.specs.Numbered.{is_among, map_from}
use Rattle.nvm_model.specs.Page.{Page, at_line, cell_of, change_line, discard, discard_page, fill, fill_page, persist, put, touches_page}
use Rattle.nvm_model.specs.Page.Page.{Absent, Present}
use Rattle.nvm_model.proofs.MediaLemmas.{cell_of-change}
use Rattle.nvm_model.proofs.NumberedLemmas.{slice_get-map_from}
use Rattle.nvm_model.proofs.PageLemmas.{cell_of-fill, cell_of-persist, cell_of-put}
use Rattle.asked_reads.specs.Durable.Durable.{HaveLines, IsLineThere}
use Rattle.asked_reads.proofs.Durable.PresenceLemmas.{has_lines, line_in, page_present, zero_at}
use Rattle.sights.specs.Seeing.{or_zeros, seen}

line_there : (o : Option Cell) → IsLineThere o → (cell : Cell) × (o ≡ Some cell)
line_there None there = absurd there
line_there (Some cell) there = (cell, refl)

-- a line of pages is that of an absent one, or it is there
pub data Where (pages : List Page) (n : ℕ) : Type 0 where
  absent : slice_get pages (n / 64) ≡ Some Absent → Where pages n
  there : (cell : Cell) → cell_of pages n ≡ Some cell → Where pages n

pub where_is : (pages : List Page) (n : ℕ) → HaveLines pages → n / 64 < length pages → Where pages n
where_is pages n lines within = by_page (slice_get pages (n / 64)) refl
  where
    inside : (xs : List Page) (k : ℕ) → k < length xs → slice_get xs k ≡ None → ⊥
    inside [] k lt is = omega arith
    inside (x ∷ xs) zero lt is = cc is
    inside (x ∷ xs) (suc k) lt is = inside xs k (omega arith) is

    by_page : (o : Option Page) → slice_get pages (n / 64) ≡ o → Where pages n
    by_page None is = absurd (inside pages (n / 64) within is)
    by_page (Some Absent) is = absent is
    by_page (Some (Present cells)) is =
        let found = line_there (cell_of pages n) (lines n (page_present pages n ∙ ap has_lines is)) in there found.0 found.1

absent_cell : (pages : List Page) (n : ℕ) → slice_get pages (n / 64) ≡ Some Absent → cell_of pages n ≡ None
absent_cell pages n is = ap (line_in n) is

seen_of : (pages : List Page) (n : ℕ) (o : Option Cell) → cell_of pages n ≡ o → seen pages n ≡ or_zeros o
seen_of pages n o is = ap or_zeros is

zeros_in : (n : ℕ) → slice_get (replicate 64 zero_cell) (n % 64) ≡ Some zero_cell
zeros_in n = zero_at 64 (n % 64) (omega arith)

module _ (at len : ℕ) (pages : List Page) (n : ℕ) where
  filled : cell_of (fill at len pages) n ≡ line_in n (option_map (fill_page at len (0 + n / 64)) (slice_get pages (n / 64)))
  unfolding fill
  filled = ap (line_in n) (slice_get-map_from (fill_page at len) 0 pages (n / 64))

  -- a page that was absent is there, of zeros, where it is touched
  filled_absent : (t : Bool) → touches_page at len (n / 64) ≡ t → slice_get pages (n / 64) ≡ Some Absent
      → cell_of (fill at len pages) n ≡ cond t (Some zero_cell) None
  filled_absent t touched is = filled ∙ ap (λ o. line_in n (option_map (fill_page at len (0 + n / 64)) o)) is ∙ ap (λ k. line_in n (Some (fill_page at len k Absent))) zero_more
      ∙ ap (λ b. line_in n (Some (cond b (Present (replicate 64 zero_cell)) Absent))) touched ∙ by_test t
    where
      zero_more : 0 + n / 64 ≡ n / 64
      zero_more = omega arith

      by_test : (b : Bool) → line_in n (Some (cond b (Present (replicate 64 zero_cell)) Absent)) ≡ cond b (Some zero_cell) None
      by_test true = zeros_in n
      by_test false = refl

  pub seen-fill : HaveLines pages → n / 64 < length pages → seen (fill at len pages) n ≡ seen pages n
  seen-fill lines within = by_place (where_is pages n lines within)
    where
      zero_both : (t : Bool) → or_zeros (cond t (Some zero_cell) None) ≡ zero_cell
      zero_both true = refl
      zero_both false = refl

      by_place : Where pages n → seen (fill at len pages) n ≡ seen pages n
      by_place (absent is) =
          seen_of (fill at len pages) n _ (filled_absent (touches_page at len (n / 64)) refl is) ∙ zero_both (touches_page at len (n / 64)) ∙ sym (seen_of pages n None (absent_cell pages n is))
      by_place (there cell is) = seen_of (fill at len pages) n (Some cell) (cell_of-fill at len pages n cell is) ∙ sym (seen_of pages n (Some cell) is)

-- words that are not reached stay
kept_words : (f : ℕ → List ℕ → List ℕ) (x : List ℕ) (m count : ℕ) → ((k : ℕ) → k < count → f (m + k) x ≡ x) → map_from f m (replicate count x) ≡ replicate count x
kept_words f x m zero same = refl
kept_words f x m (suc count) same =
    ap (λ y. y ∷ map_from f (suc m) (replicate count x)) (ap (λ k. f k x) (omega arith) ∙ same 0 (omega arith))
    ∙ ap (λ ys. x ∷ ys) (kept_words f x (suc m) count (λ k lt. ap (λ i. f i x) (omega arith) ∙ same (suc k) (omega arith)))

not_reached : (at len n w : ℕ) → 8 * n ≤ w → w < 8 * n + 8 → touches_page at len (n / 64) ≡ false → reaches at len w ≡ false
unfolding reaches
not_reached at len n w from to out = by_tests (nat_lt at (4096 * (n / 64) + 4096)) (nat_lt (4096 * (n / 64)) (at + len)) refl refl out
  where
    by_tests : (a b : Bool) → nat_lt at (4096 * (n / 64) + 4096) ≡ a → nat_lt (4096 * (n / 64)) (at + len) ≡ b → (a && b) ≡ false
        → (nat_lt at (8 * w + 8) && nat_lt (8 * w) (at + len)) ≡ false
    by_tests true true first second both = cc both
    by_tests true false first second both = grind arith
    by_tests false b first second both = grind arith

zeros_kept : (at : ℕ) (bytes : List ℕ) (n : ℕ) → touches_page at (length bytes) (n / 64) ≡ false → put_cell at bytes n zero_cell ≡ zero_cell
zeros_kept at bytes n out = ap (Kept false) (kept_words (word_stored at bytes) (0 ∷ []) (8 * n) 8 same)
  where
    same : (k : ℕ) → k < 8 → word_stored at bytes (8 * n + k) (0 ∷ []) ≡ 0 ∷ []
    same k lt = ap (λ b. cond b ((0 ∷ []) ++ word_over at bytes (8 * n + k) 0 ∷ []) (0 ∷ [])) (not_reached at (length bytes) n (8 * n + k) (omega arith) (omega arith) out)

pub seen-put : (at : ℕ) (bytes : List ℕ) (pages : List Page) (n : ℕ) → HaveLines pages → n / 64 < length pages
    → seen (put at bytes (fill at (length bytes) pages)) n ≡ put_cell at bytes n (seen pages n)
seen-put at bytes pages n lines within = by_place (where_is pages n lines within)
  where
    after : List Page
    after = fill at (length bytes) pages

    put_at : (o : Option Cell) → cell_of after n ≡ o → cell_of (put at bytes after) n ≡ option_map (put_cell at bytes n) o
    put_at o is = cell_of-put at bytes after n ∙ ap (option_map (put_cell at bytes n)) is

    was_absent : slice_get pages (n / 64) ≡ Some Absent → put_cell at bytes n (seen pages n) ≡ put_cell at bytes n zero_cell
    was_absent is = ap (put_cell at bytes n) (seen_of pages n None (absent_cell pages n is))

    by_test : (t : Bool) → touches_page at (length bytes) (n / 64) ≡ t → slice_get pages (n / 64) ≡ Some Absent
        → seen (put at bytes after) n ≡ put_cell at bytes n (seen pages n)
    by_test true touched is =
        seen_of (put at bytes after) n _ (put_at (Some zero_cell) (filled_absent at (length bytes) pages n true touched is)) ∙ sym (was_absent is)
    by_test false touched is =
        seen_of (put at bytes after) n _ (put_at None (filled_absent at (length bytes) pages n false touched is)) ∙ sym (zeros_kept at bytes n touched) ∙ sym (was_absent is)

    by_place : Where pages n → seen (put at bytes after) n ≡ put_cell at bytes n (seen pages n)
    by_place (absent is) = by_test (touches_page at (length bytes) (n / 64)) refl is
    by_place (there cell is) =
        seen_of (put at bytes after) n _ (put_at (Some cell) (cell_of-fill at (length bytes) pages n cell is)) ∙ ap (put_cell at bytes n) (sym (seen_of pages n (Some cell) is))

pub seen-persist : (start len : ℕ) (pages : List Page) (n : ℕ) → seen (persist start len pages) n ≡ persist_cell start len n (seen pages n)
seen-persist start len pages n = ap or_zeros (cell_of-persist start len pages n) ∙ by_line (cell_of pages n)
  where
    zeros_stay : (t : Bool) → cond t (flush_cell zero_cell) zero_cell ≡ zero_cell
    zeros_stay true = refl
    zeros_stay false = refl

    by_line : (o : Option Cell) → or_zeros (option_map (persist_cell start len n) o) ≡ persist_cell start len n (or_zeros o)
    by_line None = sym (zeros_stay (touches start len n))
    by_line (Some cell) = refl

-- a line lies in one of so many pages where its page is one of them
pub among_pages : (first count n : ℕ) → is_among first count (n / 64) ≡ is_among (64 * first) (64 * count) n
among_pages first count n = by_tests (nat_le first (n / 64)) (nat_lt (n / 64) (first + count)) refl refl
  where
    by_tests : (a b : Bool) → nat_le first (n / 64) ≡ a → nat_lt (n / 64) (first + count) ≡ b → (a && b) ≡ (nat_le (64 * first) n && nat_lt n (64 * first + 64 * count))
    by_tests true true low high = grind arith
    by_tests true false low high = grind arith
    by_tests false b low high = grind arith

pub seen-discard : (first count : ℕ) (pages : List Page) (n : ℕ)
    → seen (discard first count pages) n ≡ cond (is_among (64 * first) (64 * count) n) zero_cell (seen pages n)
unfolding discard
seen-discard first count pages n =
    ap or_zeros (ap (line_in n) (slice_get-map_from (discard_page first count) 0 pages (n / 64))) ∙ by_page (slice_get pages (n / 64))
    ∙ ap (λ b. cond b zero_cell (seen pages n)) (ap (is_among first count) zero_more ∙ among_pages first count n)
  where
    zero_more : 0 + n / 64 ≡ n / 64
    zero_more = omega arith

    by_page : (o : Option Page) → or_zeros (line_in n (option_map (discard_page first count (0 + n / 64)) o)) ≡ cond (is_among first count (0 + n / 64)) zero_cell (or_zeros (line_in n o))
    by_page None = zero_both (is_among first count (0 + n / 64))
      where
        zero_both : (t : Bool) → zero_cell ≡ cond t zero_cell zero_cell
        zero_both true = refl
        zero_both false = refl
    by_page (Some page) = by_test (is_among first count (0 + n / 64))
      where
        by_test : (t : Bool) → or_zeros (line_in n (Some (cond t Absent page))) ≡ cond t zero_cell (or_zeros (line_in n (Some page)))
        by_test true = refl
        by_test false = refl

-- one line that is there changed
pub seen-change : (f : Cell → Cell) (m : ℕ) (pages : List Page) (n : ℕ) (cell : Cell) → cell_of pages m ≡ Some cell → seen (change_line f m pages) n ≡ at_line f m n (seen pages n)
seen-change f m pages n cell is = ap or_zeros (cell_of-change f m pages n) ∙ by_line (cell_of pages n) refl
  where
    by_line : (o : Option Cell) → cell_of pages n ≡ o → or_zeros (option_map (at_line f m n) o) ≡ at_line f m n (or_zeros o)
    by_line (Some found) was = refl
    by_line None was = by_test (n == m) refl
      where
        by_test : (t : Bool) → (n == m) ≡ t → zero_cell ≡ cond t (f zero_cell) zero_cell
        by_test false other = refl
        by_test true same = let at : n ≡ m = eqb-true n m same in cc (sym was ∙ ap (cell_of pages) at ∙ is)
