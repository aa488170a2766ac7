-- What each word's history keeps, whatever a command does to pages: stated once, of any property of a history.
use Rattle.std.proofs.Common.{◌≡◌, ℕ, zero, suc, ◌+◌, ◌*◌, ◌/◌, ◌%◌, ◌==◌, Bool, true, false, cond, Option, Some, None, option_map, option_and_then, List, [], ◌∷◌, length, replicate, slice_get, refl, sym, ap, subst, ◌∙◌}
use Rattle.std.proofs.lemmas.Option.{same_Some, slice_get-map}
use Rattle.line_device.specs.History.{latest}
use Rattle.line_device.specs.Medium.{word_stored}
use Rattle.line_device.specs.Word.{word_at}
use Rattle.word_tables.specs.declared.geometry.Geometry.{Geometry}
use Rattle.nvm_base.specs.declared.units.Span.{Span}
use Rattle.nvm_model.specs.Cell.{Cell, clear_cell, covers, flush_cell, lose_cell, persist_cell, put_cell, touches, weaken_cell, zero_cell}
use Rattle.nvm_model.specs.Cell.Cell.{Bad, Kept}
use Rattle.nvm_model.specs.Numbered.{list_from, map_from}
use Rattle.nvm_model.specs.Page.{Page, at_line, cell_in, cell_of, change_line, discard, fill, fill_page, map_lines, persist, put, touches_page}
use Rattle.nvm_model.specs.Page.Page.{Absent, Present}
use Rattle.nvm_model.specs.Touched.{persist_spans, persist_touched, touches_any}
use Rattle.nvm_model.proofs.NumberedLemmas.{slice_get-map_from}
use Rattle.nvm_model.proofs.PageLemmas.{cell_of-discard, cell_of-map}
use Rattle.script_text.specs.Action.{Action}
use Rattle.script_text.specs.Action.Action.{FAtomic, FMulti, FWrite, Store, VStore, VSync, VPSync, VDiscard, VDiscardIf, ClearVolume, PoisonVolume, WeakenVolume}
use Rattle.machine_model.specs.Commands.{meaning}
use Rattle.machine_model.specs.OnVolume.{persist_at}
use Rattle.pm_volume.specs.Refusals.{physical_offset}
use Rattle.durable.proofs.RewrittenLemmas.{byte_rewritten}
use Rattle.durable.proofs.StepKinds.{volume_after}

-- the words of a line are so, and those of each line of pages
abbrev pub Holds : (List ℕ → Type 0) → Cell → Type 0
Holds P Bad = Unit {0}
Holds P (Kept weak words) = (w : ℕ) (history : List ℕ) → slice_get words w ≡ Some history → P history

abbrev pub AllHold : (List ℕ → Type 0) → List Page → Type 0
AllHold P pages = (n : ℕ) (cell : Cell) → cell_of pages n ≡ Some cell → Holds P cell

-- A word stays so, however it is changed, where the bytes that are brought are so.
pub record Keeps (P Q : List ℕ → Type 0) : Type 0 where
  pub zeros : P (0 ∷ [])
  pub last : (history : List ℕ) → P history → P (latest history)
  pub stored : (at : ℕ) (bytes : List ℕ) (p : ℕ) (history : List ℕ) → Q bytes → P history → P (word_stored at bytes p history)
  pub durable : (ranges : List Span) (bytes : List ℕ) (pages : List Page) (n w : ℕ) → Q bytes → P (word_at (list_from (byte_rewritten ranges bytes pages) (64 * n) 64) w ∷ [])

-- the bytes that a command brings to pages are so
abbrev pub Brings : (List ℕ → Type 0) → Action → Type 0
Brings Q (VStore offset bytes) = Q bytes
Brings Q (FWrite name offset bytes) = Q bytes
Brings Q (FAtomic name offset bytes) = Q bytes
Brings Q (FMulti name ranges bytes) = Q bytes
Brings Q (Store handle offset bytes) = Q bytes
Brings Q action = Unit {0}

-- lines changed one by one
pub all_map : (R : Cell → Type 0) (f : ℕ → Cell → Cell) (pages : List Page) → ((n : ℕ) (cell : Cell) → R cell → R (f n cell))
    → ((n : ℕ) (cell : Cell) → cell_of pages n ≡ Some cell → R cell) → (n : ℕ) (cell : Cell) → cell_of (map_from (map_lines f) 0 pages) n ≡ Some cell → R cell
all_map R f pages each have n cell is = by_old (cell_of pages n) refl (sym (cell_of-map f pages n) ∙ is)
  where
    by_old : (o : Option Cell) → cell_of pages n ≡ o → option_map (f n) o ≡ Some cell → R cell
    by_old None was found = cc found
    by_old (Some old) was found = subst R (same_Some _ cell found) (each n old (have n old was))

module _ (P Q : List ℕ → Type 0) (keeps : Keeps P Q) where
  -- zeros are so
  pub zeros_hold : (w count : ℕ) (history : List ℕ) → slice_get (replicate count (0 ∷ [])) w ≡ Some history → P history
  zeros_hold w zero history is = cc is
  zeros_hold zero (suc count) history is = subst P (same_Some (0 ∷ []) history is) keeps.zeros
  zeros_hold (suc w) (suc count) history is = zeros_hold w count history is

  pub zero_holds : Holds P zero_cell
  zero_holds = λ w history is. zeros_hold w 8 history is

  -- a line that bytes are put over
  module _ (at : ℕ) (bytes : List ℕ) (good : Q bytes) where
    pub stored_words : (n : ℕ) (words : List (List ℕ)) → ((w : ℕ) (history : List ℕ) → slice_get words w ≡ Some history → P history)
        → (w : ℕ) (history : List ℕ) → slice_get (map_from (word_stored at bytes) n words) w ≡ Some history → P history
    stored_words n words have w history is = by_old (slice_get words w) refl (sym (slice_get-map_from (word_stored at bytes) n words w) ∙ is)
      where
        by_old : (o : Option (List ℕ)) → slice_get words w ≡ o → option_map (word_stored at bytes (n + w)) o ≡ Some history → P history
        by_old None was found = cc found
        by_old (Some old) was found = subst P (same_Some _ history found) (keeps.stored at bytes (n + w) old good (have w old was))

    pub put_holds : (n : ℕ) (cell : Cell) → Holds P cell → Holds P (put_cell at bytes n cell)
    put_holds n Bad have = by_test (covers at (length bytes) n)
      where
        by_test : (b : Bool) → Holds P (cond b (Kept false (map_from (word_stored at bytes) (8 * n) (replicate 8 (0 ∷ [])))) Bad)
        by_test true = stored_words (8 * n) (replicate 8 (0 ∷ [])) (λ w history is. zeros_hold w 8 history is)
        by_test false = tt
    put_holds n (Kept weak words) have = stored_words (8 * n) words have

    pub put_hold : (pages : List Page) → AllHold P pages → AllHold P (put at bytes pages)
    unfolding put
    put_hold pages have = all_map (Holds P) (put_cell at bytes) pages (λ n cell has. put_holds n cell has) have

  -- a line that is made durable
  flush_holds : (cell : Cell) → Holds P cell → Holds P (flush_cell cell)
  flush_holds Bad have = tt
  flush_holds (Kept true words) have = tt
  flush_holds (Kept false words) have = λ w history is. by_old w history (slice_get words w) refl (sym (slice_get-map latest words w) ∙ is)
    where
      by_old : (w : ℕ) (history : List ℕ) (o : Option (List ℕ)) → slice_get words w ≡ o → option_map latest o ≡ Some history → P history
      by_old w history None was found = cc found
      by_old w history (Some old) was found = subst P (same_Some _ history found) (keeps.last old (have w old was))

  pub flushed_holds : (touched : Bool) (cell : Cell) → Holds P cell → Holds P (cond touched (flush_cell cell) cell)
  flushed_holds true cell have = flush_holds cell have
  flushed_holds false cell have = have

  persist_hold : (start len : ℕ) (pages : List Page) → AllHold P pages → AllHold P (persist start len pages)
  unfolding persist
  persist_hold start len pages have = all_map (Holds P) (persist_cell start len) pages (λ n cell has. flushed_holds (touches start len n) cell has) have

  pub spans_hold : (spans : List Span) (pages : List Page) → AllHold P pages → AllHold P (persist_spans spans pages)
  unfolding persist_spans
  spans_hold spans pages have = all_map (Holds P) (persist_touched spans) pages (λ n cell has. flushed_holds (touches_any spans n) cell has) have

  pub discard_hold : (first count : ℕ) (pages : List Page) → AllHold P pages → AllHold P (discard first count pages)
  discard_hold first count pages have n cell is = have n cell (cell_of-discard first count pages n cell is)

  -- pages that are filled with zeros
  zero_line : (count k : ℕ) (cell : Cell) → slice_get (replicate count zero_cell) k ≡ Some cell → Holds P cell
  zero_line zero k cell is = cc is
  zero_line (suc count) zero cell is = subst (Holds P) (same_Some zero_cell cell is) zero_holds
  zero_line (suc count) (suc k) cell is = zero_line count k cell is

  pub fill_hold : (at len : ℕ) (pages : List Page) → AllHold P pages → AllHold P (fill at len pages)
  unfolding fill
  fill_hold at len pages have n cell is =
      by_page (slice_get pages (n / 64)) refl (sym (ap (option_and_then (λ page. cell_in page (n % 64))) (slice_get-map_from (fill_page at len) 0 pages (n / 64))) ∙ is)
    where
      by_page : (o : Option Page) → slice_get pages (n / 64) ≡ o
          → option_and_then (λ page. cell_in page (n % 64)) (option_map (fill_page at len (0 + n / 64)) o) ≡ Some cell → Holds P cell
      by_page None was found = cc found
      by_page (Some (Present cells)) was found = have n cell (ap (option_and_then (λ page. cell_in page (n % 64))) was ∙ found)
      by_page (Some Absent) was found = by_test (touches_page at len (0 + n / 64)) found
        where
          by_test : (t : Bool) → cell_in (cond t (Present (replicate 64 zero_cell)) Absent) (n % 64) ≡ Some cell → Holds P cell
          by_test true there = zero_line 64 (n % 64) cell there
          by_test false none = cc none

  -- lines that are cleared, become weak or are lost
  clear_holds : (b : Bool) (cell : Cell) → Holds P cell → Holds P (cond b (clear_cell cell) cell)
  clear_holds true Bad have = zero_holds
  clear_holds true (Kept weak words) have = have
  clear_holds false cell have = have

  weaken_holds : (b : Bool) (cell : Cell) → Holds P cell → Holds P (cond b (weaken_cell cell) cell)
  weaken_holds true Bad have = tt
  weaken_holds true (Kept weak words) have = have
  weaken_holds false cell have = have

  lose_holds : (b : Bool) (cell : Cell) → Holds P cell → Holds P (cond b (lose_cell cell) cell)
  lose_holds true cell have = tt
  lose_holds false cell have = have

  pub clear_hold : (line : ℕ) (pages : List Page) → AllHold P pages → AllHold P (change_line clear_cell line pages)
  unfolding change_line
  clear_hold line pages have = all_map (Holds P) (at_line clear_cell line) pages (λ n cell has. clear_holds (n == line) cell has) have

  pub weaken_hold : (line : ℕ) (pages : List Page) → AllHold P pages → AllHold P (change_line weaken_cell line pages)
  unfolding change_line
  weaken_hold line pages have = all_map (Holds P) (at_line weaken_cell line) pages (λ n cell has. weaken_holds (n == line) cell has) have

  pub lose_hold : (line : ℕ) (pages : List Page) → AllHold P pages → AllHold P (change_line lose_cell line pages)
  unfolding change_line
  lose_hold line pages have = all_map (Holds P) (at_line lose_cell line) pages (λ n cell has. lose_holds (n == line) cell has) have

  persist_at_hold : (o : Option ℕ) (len : ℕ) (pages : List Page) → AllHold P pages → AllHold P (persist_at o len pages)
  persist_at_hold None len pages have = have
  persist_at_hold (Some offset) len pages have = persist_hold offset len pages have

  -- what a command makes of the volume
  pub made_hold : (geo : Geometry) (action : Action) (pages : List Page) → Brings Q action → AllHold P pages → AllHold P ((meaning action).volume geo pages)
  made_hold geo (VStore offset bytes) pages good have = put_hold offset bytes good (fill offset (length bytes) pages) (fill_hold offset (length bytes) pages have)
  made_hold geo (VSync offset len) pages good have = persist_hold offset len pages have
  made_hold geo (VPSync address len) pages good have = persist_at_hold (physical_offset geo address len) len pages have
  made_hold geo (VDiscard page count) pages good have = discard_hold page count pages have
  made_hold geo (VDiscardIf page count) pages good have = discard_hold page count pages have
  made_hold geo (ClearVolume offset) pages good have = clear_hold (offset / 64) pages have
  made_hold geo action pages good have = have

  -- what becomes of the volume by a command
  pub volume_holds : (geo : Geometry) (action : Action) (pages : List Page) → Brings Q action → AllHold P pages → AllHold P (volume_after geo action pages)
  volume_holds geo (PoisonVolume offset) pages good have = lose_hold (offset / 64) pages have
  volume_holds geo (WeakenVolume offset) pages good have = weaken_hold (offset / 64) pages have
  volume_holds geo action pages good have = made_hold geo action pages good have
