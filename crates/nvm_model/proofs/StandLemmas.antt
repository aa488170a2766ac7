-- What a device stands for, after its lines and the pages change alike.
use Rattle.std.proofs.Common.{◌≡◌, ℕ, ◌+◌, ◌*◌, ◌/◌, ◌%◌, ◌<◌, Bool, true, false, cond, eqb, Option, Some, None, option_map, List, [], ◌∷◌, ◌++◌, length, map, slice_get, slice_index_or, refl, sym, ap, subst, ◌∙◌, arith}
use Rattle.std.proofs.lemmas.Bool.Decides.{nat_tests}
use Rattle.std.proofs.lemmas.List.{length-map}
use Rattle.std.proofs.lemmas.Option.{slice_get-map, slice_get-get_or, slice_get_within}
use Rattle.std.specs.Int.{byte_at}
use Rattle.line_device.specs.Word.{reaches, word_over}
use Rattle.line_device.specs.History.{WordWritesBack, latest, newest}
use Rattle.line_device.specs.Medium.{Medium, WritesBack, word_stored, persisted, poisoned, flushed}
use Rattle.line_device.proofs.HistoryLemmas.{word_write_back-trans, word_write_back-push, word_write_back-latest_both, newest-word_write_back}
use Rattle.nvm_model.specs.Numbered.{map_from}
use Rattle.nvm_model.specs.Cell.{Cell, flush_cell, cell_byte, CellStands}
use Rattle.nvm_model.specs.Cell.Cell.{Bad, Kept}
use Rattle.nvm_model.specs.Lines.{shown_byte}
use Rattle.nvm_model.specs.Page.{Page, cell_of, byte_in, PagesStand}
use Rattle.nvm_model.proofs.NumberedLemmas.{slice_get-map_from, length-map_from}

-- what may be written back of any word may of one that is not weak
pub word_write_back-strong : (weak : Bool) (a b : List ℕ) → WordWritesBack weak a b → WordWritesBack false a b
word_write_back-strong weak a b f = record { part = f.part; last = f.last; first = λ weak. cc }

-- a store does alike to what is alike
pub word_write_back-word_stored : (at p : ℕ) (bytes a b : List ℕ) → WordWritesBack false a b → WordWritesBack false (word_stored at bytes p a) (word_stored at bytes p b)
word_write_back-word_stored at p bytes a b f = by_test (reaches at (length bytes) p)
  where
    same : newest b ≡ newest a
    same = newest-word_write_back false a b f

    by_test : (r : Bool) → WordWritesBack false (cond r (a ++ word_over at bytes p (newest a) ∷ []) a) (cond r (b ++ word_over at bytes p (newest b) ∷ []) b)
    by_test true = rw same (word_write_back-push false a b (word_over at bytes p (newest a)) f)
    by_test false = f

-- an item that was changed, from the one that it was
pub changed_from : {A B : Type 0} (f : A → B) (o : Option A) (y : B) → option_map f o ≡ Some y → (x : A) × (o ≡ Some x) × (y ≡ f x)
changed_from f None y e = cc
changed_from f (Some x) y e = (x, refl, cc)

-- a line and its cell, both with the same done to each word
pub cell_stands-each : (m b : Medium) (n : ℕ) (weak : Bool) (change : ℕ → List ℕ → List ℕ) (words : List (List ℕ))
    → ((p : ℕ) (x y : List ℕ) → WordWritesBack false x y → WordWritesBack false (change p x) (change p y))
    → CellStands m n (Kept weak words) → b.is_bad n ≡ false → b.is_weak n ≡ weak
    → ((p : ℕ) → p / 8 ≡ n → WordWritesBack false (change p (m.history p)) (b.history p))
    → CellStands b n (Kept weak (map_from change (8 * n) words))
cell_stands-each m b n weak change words alike stands healthy mark word_write_back =
    (healthy, mark, length-map_from change (8 * n) words ∙ stands.2, each)
  where
    each : (w : ℕ) (history : List ℕ) → slice_get (map_from change (8 * n) words) w ≡ Some history → WordWritesBack false history (b.history (8 * n + w))
    each w history is =
        let was = changed_from (change (8 * n + w)) (slice_get words w) history (sym (slice_get-map_from change (8 * n) words w) ∙ is) in
        let small : w < 8 = omega (arith, slice_get_within words w was.0 was.1, stands.2) in
        let here : (8 * n + w) / 8 ≡ n = omega arith in
        subst (λ h. WordWritesBack false h (b.history (8 * n + w))) (sym was.2)
        (word_write_back-trans false _ _ _ (alike (8 * n + w) was.0 (m.history (8 * n + w)) (stands.3 w was.0 was.1)) (word_write_back (8 * n + w) here))

-- a line that was only written back
pub cell_stands-write_back : (m b : Medium) (line : ℕ) (cell : Cell) → WritesBack m b → CellStands m line cell → CellStands b line cell
cell_stands-write_back m b line Bad w stands = w.bad line ∙ stands
cell_stands-write_back m b line (Kept weak words) w stands = (
  w.bad line ∙ stands.0,
  w.weak line ∙ stands.1,
  stands.2,
  λ w_ history found.
      word_write_back-trans false _ _ _ (stands.3 w_ history found)
      (word_write_back-strong (m.is_weak ((8 * line + w_) / 8)) _ _ (w.word_write_back (8 * line + w_))),
)

-- lines that were only written back
pub pages_stand-write_back : (place : ℕ → ℕ) (m b : Medium) (pages : List Page) → PagesStand place m pages → WritesBack m b → PagesStand place b pages
pages_stand-write_back place m b pages stand w = record {
  whole = stand.whole;
  lines = λ n cell is. cell_stands-write_back m b (place n) cell w (stand.lines n cell is);
}

-- a byte of the pages is that of the device's last values
pub byte_in-stand : (place : ℕ → ℕ) (m : Medium) (pages : List Page) (weak : Bool) (words : List (List ℕ)) (i : ℕ) → cell_of pages (i / 64) ≡ Some (Kept weak words)
    → CellStands m (place (i / 64)) (Kept weak words) → byte_in pages i ≡ shown_byte m (64 * place (i / 64) + i % 64)
byte_in-stand place m pages weak words i is stands =
    ap in_cell is ∙ ap (λ k. byte_at k (newest (slice_index_or words ((i % 64) / 8) []))) byte
    ∙ ap (byte_at ((64 * place (i / 64) + i % 64) % 8)) (sym (newest-word_write_back false _ _ (stands.3 ((i % 64) / 8) _ found)) ∙ ap (λ p. newest (m.history p)) at)
  where
    in_cell : Option Cell → ℕ
    in_cell None = 0
    in_cell (Some cell) = cell_byte cell (i % 64)

    byte : (i % 64) % 8 ≡ (64 * place (i / 64) + i % 64) % 8
    byte = omega arith

    at : 8 * place (i / 64) + (i % 64) / 8 ≡ (64 * place (i / 64) + i % 64) / 8
    at = omega arith

    found : slice_get words ((i % 64) / 8) ≡ Some (slice_index_or words ((i % 64) / 8) [])
    found = slice_get-get_or words ((i % 64) / 8) [] (omega (arith, stands.2))

-- a line and its cell, both made durable
pub cell_stands-persisted : (m : Medium) (n : ℕ) (cell : Cell) → CellStands m n cell → CellStands (persisted m n) n (flush_cell cell)
cell_stands-persisted m n Bad bad = by_mark (m.is_weak n)
  where
    here : eqb n n ≡ true
    here = grind (arith, nat_tests)

    by_mark : (weak : Bool) → (cond weak (poisoned m n) (flushed m n)).is_bad n ≡ true
    by_mark true = ap (λ b. cond b true (m.is_bad n)) here
    by_mark false = bad
cell_stands-persisted m n (Kept true words) stands =
    let here : eqb n n ≡ true = grind (arith, nat_tests) in
    ap (λ weak. (cond weak (poisoned m n) (flushed m n)).is_bad n) stands.1 ∙ ap (λ b. cond b true (m.is_bad n)) here
cell_stands-persisted m n (Kept false words) stands =
    subst (λ weak. CellStands (cond weak (poisoned m n) (flushed m n)) n (Kept false (map latest words))) (sym stands.1) (
      stands.0,
      stands.1,
      omega (arith, length-map words latest, stands.2),
      λ w history found.
          let was = changed_from latest (slice_get words w) history (sym (slice_get-map latest words w) ∙ found) in
          let small : w < 8 = omega (arith, slice_get_within words w was.0 was.1, stands.2) in
          let here : eqb ((8 * n + w) / 8) n ≡ true = grind (arith, nat_tests) in
          subst (λ h. WordWritesBack false h (cond (eqb ((8 * n + w) / 8) n) (latest (m.history (8 * n + w))) (m.history (8 * n + w)))) (sym was.2)
          (subst (λ t. WordWritesBack false (latest was.0) (cond t (latest (m.history (8 * n + w))) (m.history (8 * n + w)))) (sym here)
          (word_write_back-latest_both false _ _ (stands.3 w was.0 was.1))),
    )
