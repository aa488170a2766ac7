-- Pages that are written as a whole, or made holes: their lines and bytes, and which are there.
use Rattle.std.proofs.Common.{◌≡◌, ℕ, ◌+◌, ◌-◌, ◌*◌, ◌/◌, ◌%◌, ◌<◌, Bool, true, false, cond, Option, Some, None, option_map, List, [], ◌∷◌, drop, get_or, length, slice_get, slice_index_or, inl, inr, refl, sym, ap, subst, ◌∙◌, arith}
use Rattle.std.specs.Prelude.{slice_index}
use Rattle.std.specs.Int.{byte_at}
use Rattle.std.proofs.lemmas.Bool.{cases_lt}
use Rattle.std.proofs.lemmas.List.{get_or-drop, get_or_past}
use Rattle.std.proofs.lemmas.Option.{get_or_from_slice_get}
use Rattle.line_device.specs.History.{newest}
use Rattle.line_device.specs.Word.{word_at}
use Rattle.nvm_base.specs.declared.units.Span.{Span}
use Rattle.nvm_model.specs.Cell.{Cell, cell_byte}
use Rattle.nvm_model.specs.Cell.Cell.{Bad, Kept}
use Rattle.nvm_model.specs.Numbered.{is_among, list_from}
use Rattle.nvm_model.specs.Page.{Page, byte_in, cell_in, cell_of, discard, is_bad_cell, is_present}
use Rattle.nvm_model.specs.Page.Page.{Present}
use Rattle.nvm_model.specs.Storage.{File}
use Rattle.nvm_model.proofs.LineLemmas.{byte_spelled}
use Rattle.nvm_model.proofs.NumberedLemmas.{length-list_from, length-map_from, slice_get-list_from, slice_get-map_from}
use Rattle.nvm_model.proofs.PageLemmas.{cell_of-discard}
use Rattle.file_actions.specs.Rewriting.{byte_laid, durable_line, rewritten, rewritten_page, touches_any_page}
use Rattle.machine_model.specs.OnFileActions.{discarded_in, written_together}
use Rattle.durable.specs.Place.{line_has}
use Rattle.durable.specs.Durable.{HaveLines, IsLineThere}
use Rattle.durable.proofs.BadLineLemmas.{NoWorse, PagesNoWorse, changed_no_worse}
use Rattle.durable.proofs.PresenceLemmas.{line_in}
use Rattle.durable.proofs.ThereLemmas.{by_pages}
pub use Rattle.nvm_model.proofs.PutLemmas.{byte_at-small}

-- a byte of such a page
abbrev pub byte_rewritten : List Span → List ℕ → List Page → ℕ → ℕ
byte_rewritten ranges bytes pages at = byte_laid ranges bytes at (byte_in pages at)

cell-small : (o : Option Cell) (k : ℕ) → elim o [ None ↦ 0 | Some cell ↦ cell_byte cell k ] < 256
cell-small None k = omega arith
cell-small (Some Bad) k = omega arith
cell-small (Some (Kept weak words)) k = byte_at-small (k % 8) (newest (slice_index_or words (k / 8) []))

data-small : (ranges : List Span) (bytes : List ℕ) (at old : ℕ) → ((k : ℕ) → get_or bytes k 0 < 256) → old < 256 → byte_laid ranges bytes at old < 256
data-small [] bytes at old small low = low
data-small (range ∷ ranges) bytes at old small low =
    by_test (is_among range.start range.len at)
    (data-small ranges (drop range.len bytes) at old (λ k. subst (λ n. n < 256) (sym (get_or-drop range.len bytes k 0)) (small (range.len + k))) low)
  where
    by_test : (b : Bool) → byte_laid ranges (drop range.len bytes) at old < 256 → cond b (slice_index bytes (at - range.start)) (byte_laid ranges (drop range.len bytes) at old) < 256
    by_test true rest = small (at - range.start)
    by_test false rest = rest

pub rewritten-small : (ranges : List Span) (bytes : List ℕ) (pages : List Page) → ((k : ℕ) → get_or bytes k 0 < 256) → (at : ℕ) → byte_rewritten ranges bytes pages at < 256
rewritten-small ranges bytes pages small at = data-small ranges bytes at (byte_in pages at) small (cell-small (cell_of pages (at / 64)) (at % 64))

-- a durable line shows its bytes
line_at : (byte : ℕ → ℕ) (n k : ℕ) → k < 64 → get_or (list_from byte (64 * n) 64) k 0 ≡ byte (64 * n + k)
line_at byte n k lt = get_or_from_slice_get (list_from byte (64 * n) 64) k (byte (64 * n + k)) 0 (slice_get-list_from byte (64 * n) 64 k lt)

line_small : (byte : ℕ → ℕ) (n : ℕ) → ((i : ℕ) → byte i < 256) → (k : ℕ) → get_or (list_from byte (64 * n) 64) k 0 < 256
line_small byte n small k = elim (cases_lt k 64) as (λ _. get_or (list_from byte (64 * n) 64) k 0 < 256) [
  | inl lt ↦ subst (λ b. b < 256) (sym (line_at byte n k lt)) (small (64 * n + k))
  | inr past ↦ subst (λ b. b < 256) {x = 0} (sym (get_or_past (list_from byte (64 * n) 64) k 0 (omega (arith, length-list_from byte (64 * n) 64, past)))) (omega arith)
]

pub durable_word : (byte : ℕ → ℕ) (n k : ℕ) → k < 64
    → slice_index_or (list_from (λ w. word_at (list_from byte (64 * n) 64) w ∷ []) 0 8) (k / 8) [] ≡ word_at (list_from byte (64 * n) 64) (k / 8) ∷ []
durable_word byte n k lt =
    let one : ℕ → List ℕ = λ w. word_at (list_from byte (64 * n) 64) w ∷ [] in
    let at : 0 + k / 8 ≡ k / 8 = omega arith in
    get_or_from_slice_get (list_from one 0 8) (k / 8) (one (k / 8)) [] (slice_get-list_from one 0 8 (k / 8) (omega (arith, lt)) ∙ ap (λ w. Some (one w)) at)

pub durable_shown : (byte : ℕ → ℕ) (n k : ℕ) → k < 64 → ((i : ℕ) → byte i < 256) → line_has (Some (durable_line byte n)) k ≡ Some (byte (64 * n + k))
durable_shown byte n k lt small =
    ap (λ h. Some (byte_at (k % 8) (newest h))) (durable_word byte n k lt)
    ∙ ap Some (byte_spelled (list_from byte (64 * n) 64) k (line_small byte n small) ∙ line_at byte n k lt)

-- page by page
pub page_of-rewritten : (ranges : List Span) (bytes : List ℕ) (pages : List Page) (k : ℕ)
    → slice_get (rewritten ranges bytes pages) k ≡ option_map (rewritten_page ranges bytes pages (0 + k)) (slice_get pages k)
unfolding rewritten
page_of-rewritten ranges bytes pages k = slice_get-map_from (rewritten_page ranges bytes pages) 0 pages k

pub untouched_page : (ranges : List Span) (bytes : List ℕ) (pages : List Page) (k : ℕ) → touches_any_page ranges k ≡ false
    → slice_get (rewritten ranges bytes pages) k ≡ slice_get pages k
untouched_page ranges bytes pages k out = page_of-rewritten ranges bytes pages k ∙ by_page (slice_get pages k)
  where
    number : 0 + k ≡ k
    number = omega arith

    by_page : (o : Option Page) → option_map (rewritten_page ranges bytes pages (0 + k)) o ≡ o
    by_page None = refl
    by_page (Some page) =
        ap (λ j. Some (rewritten_page ranges bytes pages j page)) number
        ∙ ap (λ b. Some (cond b (Present (list_from (durable_line (byte_rewritten ranges bytes pages)) (64 * k) 64)) page)) out

pub rewritten_line : (ranges : List Span) (bytes : List ℕ) (pages : List Page) (n : ℕ) (page : Page) → touches_any_page ranges (n / 64) ≡ true → slice_get pages (n / 64) ≡ Some page
    → cell_of (rewritten ranges bytes pages) n ≡ Some (durable_line (byte_rewritten ranges bytes pages) n)
rewritten_line ranges bytes pages n page touched is =
    let number : 0 + n / 64 ≡ n / 64 = omega arith in
    let line : 64 * (0 + n / 64) + n % 64 ≡ n = omega arith in
    ap (line_in n) (page_of-rewritten ranges bytes pages (n / 64) ∙ ap (option_map (rewritten_page ranges bytes pages (0 + n / 64))) is)
    ∙ ap (λ b. cell_in (cond b (Present (list_from (durable_line (byte_rewritten ranges bytes pages)) (64 * (0 + n / 64)) 64)) page) (n % 64))
    (ap (touches_any_page ranges) number ∙ touched)
    ∙ slice_get-list_from (durable_line (byte_rewritten ranges bytes pages)) (64 * (0 + n / 64)) 64 (n % 64) (omega arith)
    ∙ ap (λ m. Some (durable_line (byte_rewritten ranges bytes pages) m)) line

pub length-rewritten : (ranges : List Span) (bytes : List ℕ) (pages : List Page) → length (rewritten ranges bytes pages) ≡ length pages
unfolding rewritten
length-rewritten ranges bytes pages = length-map_from (rewritten_page ranges bytes pages) 0 pages

-- pages that are there have their lines
pub lines-rewritten : (ranges : List Span) (bytes : List ℕ) (pages : List Page) → HaveLines pages → HaveLines (rewritten ranges bytes pages)
unfolding rewritten
lines-rewritten ranges bytes pages whole = by_pages (rewritten_page ranges bytes pages) pages whole by_page
  where
    cells : ℕ → List Cell
    cells i = list_from (durable_line (byte_rewritten ranges bytes pages)) (64 * i) 64

    by_page : (i n : ℕ) (page : Page) → (is_present page ≡ true → IsLineThere (cell_in page (n % 64))) → is_present (rewritten_page ranges bytes pages i page) ≡ true
        → IsLineThere (cell_in (rewritten_page ranges bytes pages i page) (n % 64))
    by_page i n page was there = by_test (touches_any_page ranges i) there
      where
        by_test : (t : Bool) → is_present (cond t (Present (cells i)) page) ≡ true → IsLineThere (cell_in (cond t (Present (cells i)) page) (n % 64))
        by_test true there =
            subst IsLineThere (sym (slice_get-list_from (durable_line (byte_rewritten ranges bytes pages)) (64 * i) 64 (n % 64) (omega arith)))
            (length-list_from (λ w. word_at (list_from (byte_rewritten ranges bytes pages) (64 * (64 * i + n % 64)) 64) w ∷ []) 0 8)
        by_test false there = was there

-- no line of them is bad that was not
rewritten-bad : (ranges : List Span) (bytes : List ℕ) (pages : List Page) → PagesNoWorse pages (rewritten ranges bytes pages)
rewritten-bad ranges bytes pages n bad = by_touch (touches_any_page ranges (n / 64)) refl
  where
    by_page : (o : Option Page) → slice_get pages (n / 64) ≡ o → touches_any_page ranges (n / 64) ≡ true → is_bad_cell (cell_of pages n) ≡ true
    by_page None none touched =
        cc (sym (ap (λ o. is_bad_cell (line_in n o)) (page_of-rewritten ranges bytes pages (n / 64) ∙ ap (option_map (rewritten_page ranges bytes pages (0 + n / 64))) none)) ∙ bad)
    by_page (Some page) is touched = cc (sym (ap is_bad_cell (rewritten_line ranges bytes pages n page touched is)) ∙ bad)

    by_touch : (t : Bool) → touches_any_page ranges (n / 64) ≡ t → is_bad_cell (cell_of pages n) ≡ true
    by_touch true touched = by_page (slice_get pages (n / 64)) refl touched
    by_touch false out = sym (ap (λ o. is_bad_cell (line_in n o)) (untouched_page ranges bytes pages (n / 64) out)) ∙ bad

pub rewritten_no_worse : (name : List ℕ) (ranges : List Span) (bytes : List ℕ) (files : List File) → NoWorse files (written_together name ranges bytes files)
rewritten_no_worse name ranges bytes files = changed_no_worse name (rewritten ranges bytes) files (rewritten-bad ranges bytes)

discarded-bad : (page count : ℕ) (pages : List Page) → PagesNoWorse pages (discard page count pages)
discarded-bad page count pages n bad = by_line (cell_of (discard page count pages) n) refl bad
  where
    by_line : (o : Option Cell) → cell_of (discard page count pages) n ≡ o → is_bad_cell o ≡ true → is_bad_cell (cell_of pages n) ≡ true
    by_line None is bad = cc bad
    by_line (Some cell) is bad = ap is_bad_cell (cell_of-discard page count pages n cell is) ∙ bad

pub discarded_no_worse : (name : List ℕ) (page count : ℕ) (files : List File) → NoWorse files (discarded_in name page count files)
discarded_no_worse name page count files = changed_no_worse name (discard page count) files (discarded-bad page count)
