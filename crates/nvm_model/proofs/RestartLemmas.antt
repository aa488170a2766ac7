-- What a restart leaves of pages, and of the lines that stand for them.
use Rattle.std.proofs.Common.{◌≡◌, ℕ, ◌+◌, ◌*◌, ◌/◌, ◌%◌, ◌<◌, Bool, true, false, cond, Option, Some, None, option_map, option_and_then, List, [], ◌∷◌, length, map, slice_get, slice_index_or, refl, sym, ap, subst, ◌∙◌, inl, arith}
use Rattle.std.proofs.lemmas.Option.{slice_get-map, slice_get-get_or, slice_get_within}
use Rattle.std.specs.Int.{byte_at}
use Rattle.line_device.specs.History.{WordWritesBack, latest, newest, IsIn, MayKeep}
use Rattle.line_device.specs.Medium.{Medium, IsHealthy, Survivors, Survives}
use Rattle.line_device.specs.Panel.{Image}
use Rattle.line_device.specs.Device.{Depicts}
use Rattle.line_device.specs.declared.line.Choice.{Choice}
use Rattle.line_device.specs.declared.line.Choice.TheVariants.{Lasts}
use Rattle.line_device.proofs.HistoryLemmas.{is_in-word_write_back, word_write_back-refl, newest-word_write_back}
use Rattle.line_device.proofs.TornLemmas.{may_keep-in, may_keep-latest, may_keep-part}
use Rattle.nvm_model.specs.Numbered.{list_from}
use Rattle.nvm_model.specs.Cell.{Cell, persist_cell, flush_cell, cell_byte, read_cell, touches, CellStands, KeepsCell, MaySurvive}
use Rattle.nvm_model.specs.Cell.Cell.{Bad, Kept}
use Rattle.nvm_model.specs.Page.{Page, cell_of, persist, byte_in, is_present, presence_of, read_pages, cell_in, PagesStand, KeepsPages}
use Rattle.nvm_model.specs.Page.Page.{Absent, Present}
use Rattle.nvm_model.proofs.NumberedLemmas.{slice_get-list_from, length-list_from}
use Rattle.nvm_model.proofs.PageLemmas.{cell_of-persist, cell_of-read_pages, read_pages-there, whole-read_pages}

-- what survived of a word may be left of what it stood for
is_kept : (unit : ℕ) (choice : Choice) (weak : Bool) (history old new : List ℕ) (left value : ℕ) → WordWritesBack false history old → Survives unit choice weak old new left
    → new ≡ value ∷ [] → MaySurvive unit choice history value
is_kept unit choice weak history old new left value word_write_back survives is =
    let same : value ≡ left = cc (is, survives.one) in
    record {
      was = subst (λ v. MayKeep unit v history) {x = left} (sym same) (may_keep-part unit left old history word_write_back.part survives.was);
      last = λ lasts. same ∙ survives.last lasts ∙ newest-word_write_back false history old word_write_back;
      whole = λ firsts. subst (λ v. IsIn v history) {x = left} (sym same) (is_in-word_write_back false left history old word_write_back (survives.whole firsts));
    }

-- what the power's return left is what it may leave of a line that the device stood for
keeps_cell : (choice : Choice) (m b : Medium) (image : Image) (line : ℕ) (cell : Cell) → CellStands m line cell → line < m.count → Survivors image.unit choice m b → Depicts b image
    → KeepsCell choice image line cell
keeps_cell choice m b image line Bad stands there left depicts = depicts.bad line (omega (arith, left.count)) ∙ left.bad line ∙ stands
keeps_cell choice m b image line (Kept weak words) stands there left depicts = (
  depicts.bad line (omega (arith, left.count)) ∙ left.bad line ∙ stands.0,
  depicts.weak line (omega (arith, left.count)) ∙ left.weak line ∙ stands.1,
  λ w history found.
      let small : w < 8 = omega (arith, slice_get_within words w history found, stands.2) in
      let here : (8 * line + w) / 8 ≡ line = omega arith in
      let healthy : IsHealthy m ((8 * line + w) / 8) = (omega arith, ap m.is_bad here ∙ stands.0) in
      let after : IsHealthy b ((8 * line + w) / 8) = (omega (arith, left.count), left.bad ((8 * line + w) / 8) ∙ healthy.1) in
      let word = left.words (8 * line + w) healthy in
      is_kept image.unit choice (m.is_weak ((8 * line + w) / 8)) history _ _ word.0 (image.word (8 * line + w)) (stands.3 w history found) word.1 (depicts.words (8 * line + w) after),
)

-- the device stands for what a restart reads in a line
cell_stands-read : (b : Medium) (image : Image) (line : ℕ) → line < b.count → Depicts b image → CellStands b line (read_cell image line)
cell_stands-read b image line there depicts = by_mark (image.is_bad line) refl
  where
    by_mark : (bad : Bool) → image.is_bad line ≡ bad → CellStands b line (cond bad Bad (Kept (image.is_weak line) (list_from (λ p. image.word p ∷ []) (8 * line) 8)))
    by_mark true is = sym (depicts.bad line there) ∙ is
    by_mark false is = (
      sym (depicts.bad line there) ∙ is,
      sym (depicts.weak line there),
      length-list_from (λ p. image.word p ∷ []) (8 * line) 8,
      λ w history found.
          let small : w < 8 = omega (arith, slice_get_within (list_from (λ p. image.word p ∷ []) (8 * line) 8) w history found, length-list_from (λ p. image.word p ∷ []) (8 * line) 8) in
          let same : image.word (8 * line + w) ∷ [] ≡ history = cc (slice_get-list_from (λ p. image.word p ∷ []) (8 * line) 8 w small, found) in
          let here : (8 * line + w) / 8 ≡ line = omega arith in
          let healthy : IsHealthy b ((8 * line + w) / 8) = (omega arith, ap b.is_bad here ∙ sym (depicts.bad line there) ∙ is) in
          subst (λ h. WordWritesBack false h (b.history (8 * line + w))) same
          (subst (λ h. WordWritesBack false (image.word (8 * line + w) ∷ []) h) (sym (depicts.words (8 * line + w) healthy)) (word_write_back-refl false _)),
    )

-- The lines of pages that are there stand for what is read in them.
pub pages_stand-read : (b : Medium) (image : Image) (place : ℕ → ℕ) (there : List Bool) → Depicts b image
    → ((n : ℕ) → slice_get there (n / 64) ≡ Some true → place n < b.count) → PagesStand place b (read_pages place image there)
pages_stand-read b image place there depicts within = record {
  whole = whole-read_pages place image there;
  lines = λ n cell is.
      let on = read_pages-there place image there n cell is in
      subst (CellStands b (place n)) {x = read_cell image (place n)} (cc (cell_of-read_pages place image there n on, is)) (cell_stands-read b image (place n) (within n on) depicts);
}

-- a line of a page that is there is one of its 64
line_there : (pages : List Page) (n : ℕ) → ((i : ℕ) (cells : List Cell) → slice_get pages i ≡ Some (Present cells) → length cells ≡ 64)
    → slice_get (presence_of pages) (n / 64) ≡ Some true → (cell : Cell) × (cell_of pages n ≡ Some cell)
line_there pages n whole is = by_page (slice_get pages (n / 64)) refl (sym (slice_get-map is_present pages (n / 64)) ∙ is)
  where
    by_page : (o : Option Page) → slice_get pages (n / 64) ≡ o → option_map is_present o ≡ Some true → (cell : Cell) × (cell_of pages n ≡ Some cell)
    by_page None was is = cc
    by_page (Some Absent) was is = cc
    by_page (Some (Present cells)) was is =
        let size = whole (n / 64) cells was in (
          slice_index_or cells (n % 64) Bad,
          ap (option_and_then (λ page. cell_in page (n % 64))) was ∙ slice_get-get_or cells (n % 64) Bad (omega (arith, size)),
        )

-- A restart leaves what it may leave of the pages, and the lines stand for it.
pub stand-restarted : (choice : Choice) (m b : Medium) (image : Image) (place : ℕ → ℕ) (pages : List Page) → PagesStand place m pages
    → ((n : ℕ) (cell : Cell) → cell_of pages n ≡ Some cell → place n < m.count) → Survivors image.unit choice m b → Depicts b image
    → KeepsPages choice place image pages × PagesStand place b (read_pages place image (presence_of pages))
stand-restarted choice m b image place pages stand there left depicts = (
  λ n cell is. keeps_cell choice m b image (place n) cell (stand.lines n cell is) (there n cell is) left depicts,
  pages_stand-read b image place (presence_of pages) depicts
      (λ n on. let line = line_there pages n stand.whole on in omega (arith, left.count, there n line.0 line.1)),
)

-- A restart may leave again what a restart left.
pub keeps-read : (choice : Choice) (place : ℕ → ℕ) (image : Image) (there : List Bool) → KeepsPages choice place image (read_pages place image there)
keeps-read choice place image there n cell is =
    let on = read_pages-there place image there n cell is in
    subst (KeepsCell choice image (place n)) {x = read_cell image (place n)} (cc (cell_of-read_pages place image there n on, is)) (by_mark (place n) (image.is_bad (place n)) refl)
  where
    by_mark : (line : ℕ) (bad : Bool) → image.is_bad line ≡ bad → KeepsCell choice image line (cond bad Bad (Kept (image.is_weak line) (list_from (λ p. image.word p ∷ []) (8 * line) 8)))
    by_mark line true bad = bad
    by_mark line false healthy = (
      healthy,
      refl,
      λ w history found.
          let small : w < 8 = omega (arith, slice_get_within (list_from (λ p. image.word p ∷ []) (8 * line) 8) w history found, length-list_from (λ p. image.word p ∷ []) (8 * line) 8) in
          let value : image.word (8 * line + w) ∷ [] ≡ history = cc (slice_get-list_from (λ p. image.word p ∷ []) (8 * line) 8 w small, found) in
          subst (λ h. MaySurvive image.unit choice h (image.word (8 * line + w))) value
          (record { was = may_keep-in image.unit _ (image.word (8 * line + w) ∷ []) (inl refl); last = λ _. refl; whole = λ _. inl refl }),
    )

-- a byte of words, once a restart left the last value of each
last_byte : (image : Image) (line i : ℕ) (pages : List Page) (weak : Bool) (words : List (List ℕ)) → cell_of pages (i / 64) ≡ Some (Kept weak words)
    → image.word (8 * line + (i % 64) / 8) ≡ newest (slice_index_or words ((i % 64) / 8) []) → byte_at (i % 8) (image.word (8 * line + (i % 64) / 8)) ≡ byte_in pages i
last_byte image line i pages weak words is last =
    ap (byte_at (i % 8)) last ∙ ap (λ k. byte_at k (newest (slice_index_or words ((i % 64) / 8) []))) byte ∙ ap in_cell (sym is)
  where
    in_cell : Option Cell → ℕ
    in_cell None = 0
    in_cell (Some cell) = cell_byte cell (i % 64)

    byte : i % 8 ≡ (i % 64) % 8
    byte = omega arith

-- Any restart keeps what was made durable.
pub keeps-persisted : (choice : Choice) (place : ℕ → ℕ) (image : Image) (start len i : ℕ) (pages : List Page) (words : List (List ℕ)) → cell_of pages (i / 64) ≡ Some (Kept false words)
    → length words ≡ 8 → touches start len (i / 64) ≡ true → KeepsPages choice place image (persist start len pages)
    → byte_at (i % 8) (image.word (8 * place (i / 64) + (i % 64) / 8)) ≡ byte_in pages i
keeps-persisted choice place image start len i pages words is size touched keeps = last_byte image (place (i / 64)) i pages false words is (may_keep-latest image.unit _ history kept.was)
  where
    history : List ℕ
    history = slice_index_or words ((i % 64) / 8) []

    flushed_cell : cell_of (persist start len pages) (i / 64) ≡ Some (Kept false (map latest words))
    flushed_cell =
        cell_of-persist start len pages (i / 64) ∙ ap (option_map (persist_cell start len (i / 64))) is
        ∙ ap (λ t. Some (cond t (flush_cell (Kept false words)) (Kept false words))) touched

    found : slice_get (map latest words) ((i % 64) / 8) ≡ Some (latest history)
    found = slice_get-map latest words ((i % 64) / 8) ∙ ap (option_map latest) (slice_get-get_or words ((i % 64) / 8) [] (omega (arith, size)))

    kept : MaySurvive image.unit choice (latest history) (image.word (8 * place (i / 64) + (i % 64) / 8))
    kept = (keeps (i / 64) _ flushed_cell).2 ((i % 64) / 8) (latest history) found

-- A restart that is asked to keeps all last values.
pub keeps-lasts : (place : ℕ → ℕ) (image : Image) (i : ℕ) (pages : List Page) (weak : Bool) (words : List (List ℕ)) → cell_of pages (i / 64) ≡ Some (Kept weak words)
    → length words ≡ 8 → KeepsPages Lasts place image pages → byte_at (i % 8) (image.word (8 * place (i / 64) + (i % 64) / 8)) ≡ byte_in pages i
keeps-lasts place image i pages weak words is size keeps =
    last_byte image (place (i / 64)) i pages weak words is (((keeps (i / 64) _ is).2 ((i % 64) / 8) _ (slice_get-get_or words ((i % 64) / 8) [] (omega (arith, size)))).last refl)
