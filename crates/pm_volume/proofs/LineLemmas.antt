-- One line of the volume: what a load of it gives, and what it has once it is written.
use Rattle.std.proofs.Common.{◌≡◌, inl, inr, ℕ, zero, suc, ◌+◌, ◌-◌, ◌*◌, ◌/◌, ◌%◌, ◌<◌, ◌^◌, Bool, true, false, cond, Option, Some, None, option_map, option_and_then, List, [], ◌∷◌, length, map, replicate, get_or, slice_get, slice_index_or, position, refl, sym, ap, subst, ◌∙◌, arith}
use native.Mathlib.Nat.{zero-div}
use Rattle.std.specs.Int.{byte_at}
use Rattle.std.specs.List.{range_with_len}
use Rattle.std.proofs.lemmas.Bool.Decides.{nat_tests}
use Rattle.std.proofs.lemmas.Grind.{same_number_lists}
use Rattle.std.proofs.lemmas.List.{get_or-replicate, length-replicate}
use Rattle.std.proofs.lemmas.Option.{get_or_from_slice_get, none-some, slice_get-get_or}
use Rattle.line_device.specs.History.{latest, newest}
use Rattle.line_device.specs.Medium.{Medium, word_stored}
use Rattle.line_device.specs.Word.{byte_over}
use Rattle.line_device.proofs.HistoryLemmas.{latest-latest, newest-latest}
use Rattle.line_device.proofs.WordLemmas.{byte_over-in}
use Rattle.line_words.proofs.PositionLemmas.{first_among, none_among}
use Rattle.nvm_model.specs.Cell.{Cell, cell_byte, covers, flush_cell, lowest_touched, persist_cell, put_cell, touches, zero_cell}
use Rattle.nvm_model.specs.Cell.Cell.{Bad, Kept}
use Rattle.nvm_model.specs.Numbered.{list_from, map_from}
use Rattle.nvm_model.specs.Page.{Page, PagesStand, byte_in, cell_in, cell_of, fill, fill_page, first_bad_line, is_bad_cell, look, touches_page}
use Rattle.nvm_model.specs.Page.Page.{Absent, Present}
use Rattle.nvm_model.proofs.NumberedLemmas.{length-list_from, length-map_from, list_from-same, slice_get-list_from, slice_get-map_from}
use Rattle.nvm_model.proofs.PageLemmas.{cell_of-fill, cell_of-persist, cell_of-put}
use Rattle.nvm_model.proofs.PutLemmas.{byte_in-put}
use Rattle.pm_volume.proofs.BadLemmas.{has_line}
use Rattle.pm_volume.specs.Left.{IsDurable, IsKeptLine, IsSoundLine}
use Rattle.pm_volume.specs.Line.{line_byte, line_bytes, line_in}
use Rattle.pm_volume.specs.Line.{stored_line, written_line}

-- a line and its bytes
pub line_touched : (n : ℕ) → touches (64 * n) 64 n ≡ true
line_touched n = grind (arith, nat_tests)

pub line_covered : (n : ℕ) → covers (64 * n) 64 n ≡ true
line_covered n = grind (arith, nat_tests)

pub line_apart : (l n : ℕ) → (n ≡ l → ⊥) → touches (64 * l) 64 n ≡ false
line_apart l n other = grind (arith, nat_tests)

page_touched : (n : ℕ) → touches_page (64 * n) 64 (0 + n / 64) ≡ true
page_touched n = grind (arith, nat_tests)

-- the bytes of a line
pub get-line_bytes : (o : Option Cell) (k : ℕ) → k < 64 → get_or (line_bytes o) k 0 ≡ line_byte o k
unfolding line_bytes
get-line_bytes o k lt =
    get_or_from_slice_get (list_from (line_byte o) 0 64) k _ 0 (slice_get-list_from (line_byte o) 0 64 k lt)
    ∙ ap (line_byte o) (let e : 0 + k ≡ k = omega arith in e)

pub length-line_bytes : (o : Option Cell) → length (line_bytes o) ≡ 64
unfolding line_bytes
length-line_bytes o = length-list_from (line_byte o) 0 64

pub same-line_bytes : (a b : Option Cell) → ((k : ℕ) → k < 64 → line_byte a k ≡ line_byte b k) → line_bytes a ≡ line_bytes b
unfolding line_bytes
same-line_bytes a b h =
    list_from-same (line_byte a) (line_byte b) 0 0 64
    (λ k lt. let e : 0 + k ≡ k = omega arith in ap (line_byte a) e ∙ h k lt ∙ sym (ap (line_byte b) e))

pub line_bytes-are : (o : Option Cell) (bytes : List ℕ) → length bytes ≡ 64 → ((k : ℕ) → k < 64 → line_byte o k ≡ get_or bytes k 0) → line_bytes o ≡ bytes
line_bytes-are o bytes size h =
    same_number_lists (line_bytes o) bytes (length-line_bytes o ∙ sym size)
    (λ k lt. let small : k < 64 = omega (arith, length-line_bytes o) in get-line_bytes o k small ∙ h k small)

-- a line of zeros reads as one whose page is absent
pub byte_at-zero : (k : ℕ) → byte_at k 0 ≡ 0
byte_at-zero zero = refl
byte_at-zero (suc k) = ap (λ n. n % 256) (zero-div (256 ^ suc k))

zero-bytes : line_bytes (Some zero_cell) ≡ line_bytes None
zero-bytes =
    same-line_bytes (Some zero_cell) None
    (λ k lt. ap (λ h. byte_at (k % 8) (newest h)) (get_or-replicate 8 (k / 8) (0 ∷ []) [] (omega arith)) ∙ byte_at-zero (k % 8))

pub kept-reads : (old new : Option Cell) → IsKeptLine old new → line_in new ≡ line_in old
kept-reads old new (inl same) = ap line_in same
kept-reads old new (inr filled) = ap line_in filled.1 ∙ ap Some zero-bytes ∙ sym (ap line_in filled.0)

pub kept-durable : (old new : Option Cell) → IsKeptLine old new → IsDurable old → IsDurable new
kept-durable old new (inl same) durable = subst IsDurable (sym same) durable
kept-durable old new (inr filled) durable = subst IsDurable (sym filled.1) refl

-- what a search of one line finds
pub lowest-one : (p : ℕ → Bool) (n : ℕ) (b : Bool) → p n ≡ b → lowest_touched p (64 * n) 64 ≡ cond b (Some n) None
lowest-one p n b is =
    ap (λ a. option_map (λ k. a + k) (position p (range_with_len a ((64 * n + 64 - 1) / 64 + 1 - a)))) start
    ∙ ap (λ c. option_map (λ k. n + k) (position p (range_with_len n c))) count
    ∙ by_test b is
  where
    start : 64 * n / 64 ≡ n
    start = omega arith

    count : (64 * n + 64 - 1) / 64 + 1 - n ≡ 1
    count = omega arith

    here : n + 0 ≡ n
    here = omega arith

    by_test : (b : Bool) → p n ≡ b → option_map (λ k. n + k) (position p (range_with_len n 1)) ≡ cond b (Some n) None
    by_test true is = ap (option_map (λ k. n + k)) (first_among p n 1 0 (omega arith) (λ k lt. absurd (omega arith)) (ap p here ∙ is)) ∙ ap Some here
    by_test false is = ap (option_map (λ k. n + k)) (none_among p n 1 (λ k lt. let at : n + k ≡ n = omega arith in ap p at ∙ is))

pub first_bad-line : (pages : List Page) (n : ℕ) → first_bad_line pages (64 * n) 64 ≡ cond (is_bad_cell (cell_of pages n)) (Some n) None
unfolding first_bad_line
first_bad-line pages n = lowest-one (λ k. is_bad_cell (cell_of pages k)) n (is_bad_cell (cell_of pages n)) refl

-- what is loaded is what the line has
pub line-loaded : (pages : List Page) (n : ℕ) → look pages (64 * n) 64 ≡ line_bytes (cell_of pages n)
unfolding look line_bytes
line-loaded pages n = list_from-same (byte_in pages) (line_byte (cell_of pages n)) (64 * n) 0 64 each
  where
    each : (k : ℕ) → k < 64 → byte_in pages (64 * n + k) ≡ line_byte (cell_of pages n) (0 + k)
    each k lt =
        let line : (64 * n + k) / 64 ≡ n = omega arith in
        let byte : (64 * n + k) % 64 ≡ 0 + k = omega arith in
        ap (λ i. seen ((64 * n + k) % 64) (cell_of pages i)) line ∙ ap (λ i. seen i (cell_of pages n)) byte ∙ same (0 + k) (cell_of pages n)
      where
        seen : ℕ → Option Cell → ℕ
        seen i None = 0
        seen i (Some cell) = cell_byte cell i

        same : (i : ℕ) (o : Option Cell) → seen i o ≡ line_byte o i
        same i None = refl
        same i (Some cell) = refl

-- a line that can be stored and synced, once its page is filled
pub record IsStrong (pages : List Page) (n : ℕ) : Type 0 where
  pub words : List (List ℕ)
  pub is : cell_of pages n ≡ Some (Kept false words)
  pub size : length words ≡ 8

pub fill-strong : (place : ℕ → ℕ) (m : Medium) (pages : List Page) (n : ℕ) → PagesStand place m pages → n < 64 * length pages → IsSoundLine (cell_of pages n)
    → IsStrong (fill (64 * n) 64 pages) n
unfolding fill
fill-strong place m pages n stand within sound = by_page (slice_get pages (n / 64)) refl
  where
    in_page : Option Page → Option Cell
    in_page o = option_and_then (λ page. cell_in page (n % 64)) o

    zeros : slice_get (replicate 64 zero_cell) (n % 64) ≡ Some zero_cell
    zeros =
        slice_get-get_or (replicate 64 zero_cell) (n % 64) zero_cell (omega (arith, length-replicate 64 zero_cell))
        ∙ ap Some (get_or-replicate 64 (n % 64) zero_cell zero_cell (omega arith))

    by_cell : (cell : Cell) → cell_of pages n ≡ Some cell → IsStrong (fill (64 * n) 64 pages) n
    by_cell Bad is = absurd (subst IsSoundLine is sound)
    by_cell (Kept true words) is = absurd (subst IsSoundLine is sound)
    by_cell (Kept false words) is = record {
      words = words;
      is = cell_of-fill (64 * n) 64 pages n (Kept false words) is;
      size = (stand.lines n (Kept false words) is).2;
    }

    by_page : (o : Option Page) → slice_get pages (n / 64) ≡ o → IsStrong (fill (64 * n) 64 pages) n
    by_page None is = let there = slice_get-get_or pages (n / 64) Absent (omega (arith, within)) in absurd (none-some _ (sym is ∙ there))
    by_page (Some (Present cells)) is =
        let has = has_line cells (n % 64) (stand.whole (n / 64) cells is) (omega arith) in
        by_cell has.0 (ap in_page is ∙ has.1)
    by_page (Some Absent) is = record {
      words = replicate 8 (0 ∷ []);
      is =
          ap in_page (slice_get-map_from (fill_page (64 * n) 64) 0 pages (n / 64) ∙ ap (option_map (fill_page (64 * n) 64 (0 + n / 64))) is)
          ∙ ap (λ t. in_page (Some (cond t (Present (replicate 64 zero_cell)) Absent))) (page_touched n) ∙ zeros;
      size = refl;
    }

-- the line once it is stored
pub stored-is : (pages : List Page) (n : ℕ) (bytes : List ℕ) (words : List (List ℕ)) → cell_of (fill (64 * n) 64 pages) n ≡ Some (Kept false words)
    → cell_of (stored_line n bytes pages) n ≡ Some (Kept false (map_from (word_stored (64 * n) bytes) (8 * n) words))
stored-is pages n bytes words is = cell_of-put (64 * n) bytes (fill (64 * n) 64 pages) n ∙ ap (option_map (put_cell (64 * n) bytes n)) is

pub stored-strong : (pages : List Page) (n : ℕ) (bytes : List ℕ) → IsStrong (fill (64 * n) 64 pages) n → IsStrong (stored_line n bytes pages) n
stored-strong pages n bytes strong = record {
  words = map_from (word_stored (64 * n) bytes) (8 * n) strong.words;
  is = stored-is pages n bytes strong.words strong.is;
  size = length-map_from _ (8 * n) strong.words ∙ strong.size;
}

pub stored-bytes : (pages : List Page) (n : ℕ) (bytes : List ℕ) → length bytes ≡ 64 → ((k : ℕ) → get_or bytes k 0 < 256) → IsStrong (fill (64 * n) 64 pages) n
    → line_bytes (cell_of (stored_line n bytes pages) n) ≡ bytes
stored-bytes pages n bytes size small strong =
    line_bytes-are (cell_of (stored_line n bytes pages) n) bytes size each
  where
    seen : ℕ → Option Cell → ℕ
    seen i None = 0
    seen i (Some cell) = cell_byte cell i

    same : (i : ℕ) (o : Option Cell) → seen i o ≡ line_byte o i
    same i None = refl
    same i (Some cell) = refl

    each : (k : ℕ) → k < 64 → line_byte (cell_of (stored_line n bytes pages) n) k ≡ get_or bytes k 0
    each k lt =
        let line : (64 * n + k) / 64 ≡ n = omega arith in
        let byte : (64 * n + k) % 64 ≡ k = omega arith in
        let back : 64 * n + k - 64 * n ≡ k = omega arith in
        let put_there : byte_in (stored_line n bytes pages) (64 * n + k) ≡ byte_over (64 * n) bytes (64 * n + k) (byte_in (fill (64 * n) 64 pages) (64 * n + k)) =
        byte_in-put (64 * n) (64 * n + k) bytes (fill (64 * n) 64 pages) (Kept false strong.words) small (ap (cell_of (fill (64 * n) 64 pages)) line ∙ strong.is) strong.size in
        sym (ap (λ i. seen ((64 * n + k) % 64) (cell_of (stored_line n bytes pages) i)) line ∙ ap (λ i. seen i (cell_of (stored_line n bytes pages) n)) byte ∙ same k (cell_of (stored_line n bytes pages) n))
        ∙ put_there
        ∙ byte_over-in (64 * n) (64 * n + k) _ bytes (omega arith) (omega (arith, size))
        ∙ ap (λ i. get_or bytes i 0) back

pub get-latest : (words : List (List ℕ)) (w : ℕ) → slice_index_or (map latest words) w [] ≡ latest (slice_index_or words w [])
get-latest [] w = refl
get-latest (h ∷ words) zero = refl
get-latest (h ∷ words) (suc w) = get-latest words w

pub durable-latest : (words : List (List ℕ)) → map latest (map latest words) ≡ map latest words
durable-latest [] = refl
durable-latest (h ∷ words) = let head = latest-latest h in let rest = durable-latest words in rw (head, rest) refl

-- and once it is synced
pub written-is : (pages : List Page) (n : ℕ) (bytes : List ℕ) (strong : IsStrong (stored_line n bytes pages) n)
    → cell_of (written_line n bytes pages) n ≡ Some (Kept false (map latest strong.words))
written-is pages n bytes strong =
    cell_of-persist (64 * n) 64 (stored_line n bytes pages) n ∙ ap (option_map (persist_cell (64 * n) 64 n)) strong.is
    ∙ ap (λ t. Some (cond t (flush_cell (Kept false strong.words)) (Kept false strong.words))) (line_touched n)

pub written-durable : (pages : List Page) (n : ℕ) (bytes : List ℕ) → IsStrong (stored_line n bytes pages) n → IsDurable (cell_of (written_line n bytes pages) n)
written-durable pages n bytes strong = subst IsDurable (sym (written-is pages n bytes strong)) (durable-latest strong.words)

pub written-reads : (pages : List Page) (n : ℕ) (bytes : List ℕ) → length bytes ≡ 64 → ((k : ℕ) → get_or bytes k 0 < 256) → IsStrong (fill (64 * n) 64 pages) n
    → line_in (cell_of (written_line n bytes pages) n) ≡ Some bytes
written-reads pages n bytes size small strong =
    let stored = stored-strong pages n bytes strong in
    let flushed : line_bytes (Some (Kept false (map latest stored.words))) ≡ line_bytes (Some (Kept false stored.words)) =
    same-line_bytes (Some (Kept false (map latest stored.words))) (Some (Kept false stored.words))
    (λ k lt. ap (λ h. byte_at (k % 8) (newest h)) (get-latest stored.words (k / 8)) ∙ ap (byte_at (k % 8)) (newest-latest (slice_index_or stored.words (k / 8) []))) in
    ap line_in (written-is pages n bytes stored) ∙ ap Some (flushed ∙ sym (ap line_bytes stored.is) ∙ stored-bytes pages n bytes size small strong)
