-- What was put is what is seen.
use Rattle.std.proofs.Common.{◌≡◌, ℕ, zero, suc, ◌+◌, ◌*◌, ◌/◌, ◌%◌, ◌<◌, ◌≤◌, Bool, true, false, cond, Option, Some, None, option_map, List, [], ◌∷◌, ◌++◌, length, slice_index, slice_index_or, replicate, refl, sym, ap, ◌∙◌, inl, inr, arith}
use Rattle.std.proofs.lemmas.Bool.Decides.{nat_tests}
use Rattle.std.proofs.lemmas.Option.{slice_get-get_or, get_or_from_slice_get}
use Rattle.std.specs.Int.{byte_at}
use Rattle.line_device.specs.Word.{byte_over, word_over, reaches}
use Rattle.line_device.specs.History.{newest}
use Rattle.line_device.specs.Medium.{word_stored}
use Rattle.line_device.proofs.HistoryLemmas.{newest-push}
use Rattle.line_device.proofs.WordLemmas.{byte_at-word_from, byte_over-in, byte_over-out, reaches-false}
use Rattle.nvm_model.specs.Numbered.{map_from}
use Rattle.nvm_model.specs.Cell.{Cell, put_cell, cell_byte, TakesPut}
use Rattle.nvm_model.specs.Cell.Cell.{Bad, Kept}
use Rattle.nvm_model.specs.Page.{Page, cell_of, put, byte_in}
use Rattle.nvm_model.proofs.NumberedLemmas.{slice_get-map_from}
use Rattle.nvm_model.proofs.PageLemmas.{cell_of-put}

pub byte_at-small : (k n : ℕ) → byte_at k n < 256
byte_at-small zero n = omega arith
byte_at-small (suc k) n = omega arith

byte_over-small : (at i old : ℕ) (bytes : List ℕ) → ((k : ℕ) → slice_index bytes k < 256) → old < 256 → byte_over at bytes i old < 256
unfolding byte_over
byte_over-small at i old bytes small below = grind (arith, nat_tests, small)

-- a byte of a word, once bytes are put over it
pub byte_at-word_stored : (at p k : ℕ) (bytes h : List ℕ) → ((i : ℕ) → slice_index bytes i < 256) → k < 8
    → byte_at k (newest (word_stored at bytes p h)) ≡ byte_over at bytes (8 * p + k) (byte_at k (newest h))
unfolding word_over
byte_at-word_stored at p k bytes h small below = by_test (reaches at (length bytes) p) refl
  where
    over : ℕ → ℕ
    over i = byte_over at bytes (8 * p + i) (byte_at i (newest h))

    by_test : (r : Bool) → reaches at (length bytes) p ≡ r → byte_at k (newest (cond r (h ++ word_over at bytes p (newest h) ∷ []) h)) ≡ over k
    by_test true is =
        ap (byte_at k) (newest-push h (word_over at bytes p (newest h)))
        ∙ byte_at-word_from over k (λ i _. byte_over-small at (8 * p + i) (byte_at i (newest h)) bytes small (byte_at-small i (newest h))) below
    by_test false is = sym (byte_over-out at (8 * p + k) (byte_at k (newest h)) bytes
        (elim (reaches-false at (length bytes) p is) [ inl far ↦ inl (omega arith) | inr past ↦ inr (omega arith) ]))

-- a byte of eight words, once bytes are put over them
words_byte : (at n i : ℕ) (weak : Bool) (bytes : List ℕ) (words : List (List ℕ)) → ((k : ℕ) → slice_index bytes k < 256) → length words ≡ 8 → i / 64 ≡ n
    → cell_byte (Kept weak (map_from (word_stored at bytes) (8 * n) words)) (i % 64) ≡ byte_over at bytes i (cell_byte (Kept weak words) (i % 64))
words_byte at n i weak bytes words small size here =
    ap (λ h. byte_at ((i % 64) % 8) (newest h)) changed
    ∙ byte_at-word_stored at (8 * n + (i % 64) / 8) ((i % 64) % 8) bytes (slice_index_or words ((i % 64) / 8) []) small (omega arith)
    ∙ ap (λ j. byte_over at bytes j (cell_byte (Kept weak words) (i % 64))) place
  where
    place : 8 * (8 * n + (i % 64) / 8) + (i % 64) % 8 ≡ i
    place = omega arith

    changed : slice_index_or (map_from (word_stored at bytes) (8 * n) words) ((i % 64) / 8) []
        ≡ word_stored at bytes (8 * n + (i % 64) / 8) (slice_index_or words ((i % 64) / 8) [])
    changed = get_or_from_slice_get _ ((i % 64) / 8) _ []
        (slice_get-map_from (word_stored at bytes) (8 * n) words ((i % 64) / 8)
        ∙ ap (option_map (word_stored at bytes (8 * n + (i % 64) / 8))) (slice_get-get_or words ((i % 64) / 8) [] (omega (arith, size))))

cell_byte-put : (at i : ℕ) (bytes : List ℕ) (cell : Cell) → ((k : ℕ) → slice_index bytes k < 256) → TakesPut at (length bytes) (i / 64) cell
    → cell_byte (put_cell at bytes (i / 64) cell) (i % 64) ≡ byte_over at bytes i (cell_byte cell (i % 64))
cell_byte-put at i bytes (Kept weak words) small size = words_byte at (i / 64) i weak bytes words small size refl
cell_byte-put at i bytes Bad small covered =
    ap (λ c. cell_byte (cond c (Kept false (map_from (word_stored at bytes) (8 * (i / 64)) zeros)) Bad) (i % 64)) covered
    ∙ words_byte at (i / 64) i false bytes zeros small refl refl
    ∙ byte_over-in at i _ bytes from to ∙ sym (byte_over-in at i 0 bytes from to)
  where
    zeros : List (List ℕ)
    zeros = replicate 8 (0 ∷ [])

    from : at ≤ i
    from = grind (arith, nat_tests)

    to : i < at + length bytes
    to = grind (arith, nat_tests)

-- a byte of the pages, once bytes are put over them
pub byte_in-put : (at i : ℕ) (bytes : List ℕ) (pages : List Page) (cell : Cell) → ((k : ℕ) → slice_index bytes k < 256) → cell_of pages (i / 64) ≡ Some cell
    → TakesPut at (length bytes) (i / 64) cell → byte_in (put at bytes pages) i ≡ byte_over at bytes i (byte_in pages i)
byte_in-put at i bytes pages cell small is takes =
    ap seen (cell_of-put at bytes pages (i / 64) ∙ ap (option_map (put_cell at bytes (i / 64))) is)
    ∙ cell_byte-put at i bytes cell small takes
    ∙ ap (λ o. byte_over at bytes i (seen o)) (sym is)
  where
    seen : Option Cell → ℕ
    seen None = 0
    seen (Some c) = cell_byte c (i % 64)
