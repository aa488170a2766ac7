-- What becomes of pages, line by line as reads see them.
use Rattle.std.proofs.Common.{◌≡◌, ◌⊎◌, inl, inr, ℕ, zero, suc, ◌+◌, ◌-◌, ◌*◌, ◌/◌, ◌%◌, ◌^◌, ◌<◌, ◌≤◌, nat_lt, Bool, true, false, cond, Option, Some, None, option_map, List, [], ◌∷◌, ◌++◌, length, take, replicate, slice_get, slice_index_or, refl, sym, ap, ◌∙◌, arith}
use Rattle.std.specs.Int.{byte_at}
use Rattle.std.proofs.lemmas.List.{length-append, length-replicate, length-take}
use native.Mathlib.Nat.{zero-div}
use Rattle.nvm_base.specs.declared.units.Span.{Span}
use Rattle.line_device.specs.History.{newest}
use Rattle.line_device.specs.Word.{word_at}
use Rattle.nvm_model.specs.Cell.{Cell, cell_byte, clear_cell, flush_cell, lose_cell, weaken_cell, zero_cell}
use Rattle.nvm_model.specs.Cell.Cell.{Kept}
use Rattle.nvm_model.specs.Numbered.{list_from}
use Rattle.nvm_model.specs.Page.{Page, byte_in, cell_of}
use Rattle.nvm_model.specs.Page.Page.{Absent}
use Rattle.nvm_model.specs.Touched.{persist_spans, persist_touched, touches_any}
use Rattle.nvm_model.proofs.NumberedLemmas.{list_from-same}
use Rattle.nvm_model.proofs.PageLemmas.{length-discard, length-put_fill}
use Rattle.nvm_model.proofs.ResizeLemmas.{replicate-item, resized-item, resized-kept}
use Rattle.nvm_model.proofs.SeveralLemmas.{cell_of-spans, length-spans}
use Rattle.file_actions.specs.Rewriting.{byte_laid, durable_line, rewritten, touches_any_page}
use Rattle.sights.specs.Durable.Durable.{HaveLines}
use Rattle.sights.proofs.Durable.PresenceLemmas.{line_in}
use Rattle.sights.proofs.Durable.RewrittenLemmas.{byte_rewritten, length-rewritten, rewritten_line, untouched_page}
use Rattle.sights.specs.Seeing.{or_zeros, seen}
use Rattle.sights.proofs.SeenLemmas.{among_pages, seen-change, seen-discard, seen-put}
use Rattle.cut_places.specs.FileChanges.{LinesChange, line_changed, pages_changed}
use Rattle.cut_places.specs.FileChanges.LinesChange.{Puts, Persists, Rewrites, Zeroes, Loses, Weakens, Clears}
use Rattle.nvm_model.proofs.MediaLemmas.{length-change as length-change_line}

-- a line that is marked is there
abbrev pub IsThere : List Page → ℕ → Type 0
IsThere pages n = (cell : Cell) × (cell_of pages n ≡ Some cell)

abbrev pub MarksThere : LinesChange → List Page → Type 0
MarksThere (Puts at bytes) pages = Unit {0}
MarksThere (Persists spans) pages = Unit {0}
MarksThere (Rewrites ranges bytes) pages = Unit {0}
MarksThere (Zeroes page count) pages = Unit {0}
MarksThere (Loses line) pages = IsThere pages line
MarksThere (Weakens line) pages = IsThere pages line
MarksThere (Clears line) pages = IsThere pages line

past_end : {A : Type 0} (xs : List A) (k : ℕ) → length xs ≤ k → slice_get xs k ≡ None
past_end [] k past = refl
past_end (x ∷ xs) zero past = absurd (omega (arith, past))
past_end (x ∷ xs) (suc k) past = past_end xs k (omega (arith, past))

within : {A : Type 0} (xs : List A) (k : ℕ) → k < length xs → (x : A) × (slice_get xs k ≡ Some x)
within [] k lt = absurd (omega (arith, lt))
within (x ∷ xs) zero lt = (x, refl)
within (x ∷ xs) (suc k) lt = within xs k (omega (arith, lt))

-- past the end there are zeros
pub seen_past : (pages : List Page) (n : ℕ) → length pages ≤ n / 64 → seen pages n ≡ zero_cell
seen_past pages n past = ap (λ o. or_zeros (line_in n o)) (past_end pages (n / 64) past)

seen-spans : (spans : List Span) (pages : List Page) (n : ℕ) → seen (persist_spans spans pages) n ≡ persist_touched spans n (seen pages n)
seen-spans spans pages n = ap or_zeros (cell_of-spans spans pages n) ∙ by_line (cell_of pages n)
  where
    zeros_stay : (t : Bool) → zero_cell ≡ cond t (flush_cell zero_cell) zero_cell
    zeros_stay true = refl
    zeros_stay false = refl

    by_line : (o : Option Cell) → or_zeros (option_map (persist_touched spans n) o) ≡ persist_touched spans n (or_zeros o)
    by_line None = zeros_stay (touches_any spans n)
    by_line (Some cell) = refl

-- a byte of a line as reads see it
byte_at_zero : (k : ℕ) → byte_at k 0 ≡ 0
byte_at_zero zero = refl
byte_at_zero (suc k) = ap (λ n. n % 256) (zero-div (256 ^ suc k))

zero_byte : (k : ℕ) → cell_byte zero_cell k ≡ 0
zero_byte k = ap (byte_at (k % 8)) (zero_word 8 (k / 8)) ∙ byte_at_zero (k % 8)
  where
    zero_word : (count w : ℕ) → newest (slice_index_or (replicate count (0 ∷ [])) w []) ≡ 0
    zero_word zero w = refl
    zero_word (suc count) zero = refl
    zero_word (suc count) (suc w) = zero_word count w

byte_seen : (pages : List Page) (at n : ℕ) → at / 64 ≡ n → byte_in pages at ≡ cell_byte (seen pages n) (at % 64)
byte_seen pages at n is = ap (λ m. elim (cell_of pages m) [ None ↦ 0 | Some cell ↦ cell_byte cell (at % 64) ]) is ∙ by_line (cell_of pages n)
  where
    by_line : (o : Option Cell) → (elim o [ None ↦ 0 | Some cell ↦ cell_byte cell (at % 64) ]) ≡ cell_byte (or_zeros o) (at % 64)
    by_line None = sym (zero_byte (at % 64))
    by_line (Some cell) = refl

seen-rewritten : (ranges : List Span) (bytes : List ℕ) (pages : List Page) (n : ℕ) → n / 64 < length pages
    → seen (rewritten ranges bytes pages) n ≡ line_changed (Rewrites ranges bytes) n (seen pages n)
seen-rewritten ranges bytes pages n lt = by_test (touches_any_page ranges (n / 64)) refl
  where
    byte : ℕ → ℕ
    byte at = byte_laid ranges bytes at (cell_byte (seen pages n) (at % 64))

    same_bytes : list_from (byte_rewritten ranges bytes pages) (64 * n) 64 ≡ list_from byte (64 * n) 64
    same_bytes = list_from-same (byte_rewritten ranges bytes pages) byte (64 * n) (64 * n) 64
        (λ k less. ap (byte_laid ranges bytes (64 * n + k)) (byte_seen pages (64 * n + k) n (omega (arith, less))))

    by_test : (t : Bool) → touches_any_page ranges (n / 64) ≡ t → seen (rewritten ranges bytes pages) n ≡ cond t (durable_line byte n) (seen pages n)
    by_test true touched =
        let page = within pages (n / 64) lt in
        ap or_zeros (rewritten_line ranges bytes pages n page.0 touched page.1) ∙ ap (λ bs. Kept false (list_from (λ w. word_at bs w ∷ []) 0 8)) same_bytes
    by_test false out = ap (λ o. or_zeros (line_in n o)) (untouched_page ranges bytes pages (n / 64) out)

pub seen_changed : (c : LinesChange) (pages : List Page) (n : ℕ) → HaveLines pages → MarksThere c pages → n / 64 < length pages
    → seen (pages_changed c pages) n ≡ line_changed c n (seen pages n)
seen_changed (Puts at bytes) pages n whole there lt = seen-put at bytes pages n whole lt
seen_changed (Persists spans) pages n whole there lt = seen-spans spans pages n
seen_changed (Rewrites ranges bytes) pages n whole there lt = seen-rewritten ranges bytes pages n lt
seen_changed (Zeroes page count) pages n whole there lt = seen-discard page count pages n ∙ ap (λ b. cond b zero_cell (seen pages n)) (sym (among_pages page count n))
seen_changed (Loses line) pages n whole there lt = seen-change lose_cell line pages n there.0 there.1
seen_changed (Weakens line) pages n whole there lt = seen-change weaken_cell line pages n there.0 there.1
seen_changed (Clears line) pages n whole there lt = seen-change clear_cell line pages n there.0 there.1

pub length_changed : (c : LinesChange) (pages : List Page) → length (pages_changed c pages) ≡ length pages
length_changed (Puts at bytes) pages = length-put_fill at (length bytes) bytes pages
length_changed (Persists spans) pages = length-spans spans pages
length_changed (Rewrites ranges bytes) pages = length-rewritten ranges bytes pages
length_changed (Zeroes page count) pages = length-discard page count pages
length_changed (Loses line) pages = length-change_line lose_cell line pages
length_changed (Weakens line) pages = length-change_line weaken_cell line pages
length_changed (Clears line) pages = length-change_line clear_cell line pages

-- holes are zeros
pub seen_hole : (count n : ℕ) → seen (replicate count Absent) n ≡ zero_cell
seen_hole count n = by_page (slice_get (replicate count Absent) (n / 64)) refl
  where
    by_page : (o : Option Page) → slice_get (replicate count Absent) (n / 64) ≡ o → or_zeros (line_in n o) ≡ zero_cell
    by_page None is = refl
    by_page (Some page) is = ap (λ p. or_zeros (line_in n (Some p))) (replicate-item count Absent (n / 64) page is)

module _ (count : ℕ) (pages : List Page) where
  abbrev resized : List Page
  resized = take count pages ++ replicate (count - length pages) Absent

  pub length_resized : length resized ≡ count
  length_resized = omega (arith, length-append (take count pages) (replicate (count - length pages) Absent), length-take count pages, length-replicate (count - length pages) Absent)

  -- a page that is cut is gone, and one that is added is a hole
  new_zeros : (n : ℕ) → (n / 64 < count → n / 64 < length pages → ⊥) → seen resized n ≡ zero_cell
  new_zeros n out = by_page (slice_get resized (n / 64)) refl
    where
      by_item : (page : Page) → (page ≡ Absent) ⊎ ((n / 64 < count) × (slice_get pages (n / 64) ≡ Some page)) → or_zeros (line_in n (Some page)) ≡ zero_cell
      by_item page (inl is) = ap (λ p. or_zeros (line_in n (Some p))) is
      by_item page (inr old) = absurd (by_size (nat_lt (n / 64) (length pages)) refl old.1)
        where
          by_size : (b : Bool) → nat_lt (n / 64) (length pages) ≡ b → slice_get pages (n / 64) ≡ Some page → ⊥
          by_size true lt is = out old.0 (grind arith)
          by_size false past is = let gone : slice_get pages (n / 64) ≡ None = past_end pages (n / 64) (grind arith) in cc

      by_page : (o : Option Page) → slice_get resized (n / 64) ≡ o → or_zeros (line_in n o) ≡ zero_cell
      by_page None is = refl
      by_page (Some page) is = by_item page (resized-item count pages Absent (n / 64) page is)

  pub seen_resized : (n : ℕ) → seen resized n ≡ cond (nat_lt (n / 64) count) (seen pages n) zero_cell
  seen_resized n = by_count (nat_lt (n / 64) count) refl
    where
      by_size : (b : Bool) → nat_lt (n / 64) (length pages) ≡ b → n / 64 < count → seen resized n ≡ seen pages n
      by_size true lt low = ap (λ o. or_zeros (line_in n o)) (resized-kept count pages Absent (n / 64) low (grind arith))
      by_size false past low = new_zeros n (λ a b. grind arith) ∙ sym (seen_past pages n (grind arith))

      by_count : (b : Bool) → nat_lt (n / 64) count ≡ b → seen resized n ≡ cond b (seen pages n) zero_cell
      by_count true low = by_size (nat_lt (n / 64) (length pages)) refl (grind arith)
      by_count false past = new_zeros n (λ a b. grind arith)
