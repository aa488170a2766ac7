-- A byte of a line of the volume that each value of its word has.
use Rattle.std.proofs.Common.{◌≡◌, ◌⊎◌, inl, inr, ℕ, ◌+◌, ◌*◌, ◌/◌, ◌%◌, ◌<◌, Bool, true, false, cond, Option, Some, None, option_map, List, [], ◌∷◌, length, map, get_or, slice_get, slice_index_or, replicate, refl, sym, ap, subst, ◌∙◌, arith}
use Rattle.std.proofs.lemmas.Bool.Decides.{nat_tests}
use Rattle.std.proofs.lemmas.Option.{slice_get-get_or, slice_get-map, get_or_from_slice_get}
use Rattle.std.specs.Int.{byte_at}
use Rattle.line_device.specs.History.{latest, newest}
use Rattle.line_device.specs.Medium.{word_stored}
use Rattle.line_device.specs.Panel.{Image}
use Rattle.line_device.proofs.HistoryLemmas.{newest-latest}
use Rattle.line_device.specs.declared.line.Choice.{Choice}
use Rattle.nvm_model.specs.Numbered.{is_among, list_from, map_from}
use Rattle.nvm_model.specs.Page.{is_bad_cell}
use Rattle.nvm_model.specs.Cell.{Cell, KeepsCell, cell_byte, covers, flush_cell, put_cell, read_cell, zero_cell}
use Rattle.nvm_model.specs.Cell.Cell.{Bad, Kept}
use Rattle.nvm_model.specs.Interrupted.{MayPut}
use Rattle.nvm_model.proofs.NumberedLemmas.{slice_get-list_from, slice_get-map_from}
use Rattle.durable.specs.Place.{is_weak_line, line_has}
use Rattle.std.proofs.lemmas.Bool.{both_ways}
use Rattle.durable.specs.Durable.{IsLineThere}
use Rattle.std.proofs.lemmas.List.{get_or-replicate}
use Rattle.durable.proofs.WordLemmas.{WordKeeps, word_keeps-flushed, word_keeps-latest, word_keeps-one, word_keeps-stored}
use Rattle.pm_volume.proofs.LineLemmas.{get-latest as get_or-latest}
pub use Rattle.pm_volume.proofs.LineLemmas.{byte_at-zero}

pub zero_shown : (i : ℕ) → i < 64 → line_has (Some zero_cell) i ≡ Some 0
zero_shown i lt = ap (λ h. Some (byte_at (i % 8) (newest h))) (get_or-replicate 8 (i / 8) (0 ∷ []) [] (omega arith)) ∙ ap Some (byte_at-zero (i % 8))

pub flush_shown : (cell : Cell) (k : ℕ) → is_bad_cell (Some cell) ≡ false → is_weak_line (Some cell) ≡ false → line_has (Some (flush_cell cell)) k ≡ Some (cell_byte cell k)
flush_shown Bad k good strong = cc good
flush_shown (Kept true words) k good strong = cc strong
flush_shown (Kept false words) k good strong =
    ap (λ h. Some (byte_at (k % 8) (newest h))) (get_or-latest words (k / 8)) ∙ ap (λ v. Some (byte_at (k % 8) v)) (newest-latest (slice_index_or words (k / 8) []))

-- what is there is this, or it was lost, where it may be
abbrev pub HasOrLost : Bool → Option ℕ → Option ℕ → Type 0
HasOrLost lost found v = (found ≡ v) ⊎ ((found ≡ None) × (lost ≡ true))

-- what may have become of a line since: whether it may be weak, and whether it may be lost; and whether the power may be cut
pub record MayBe : Type 0 where
  pub weak : Bool
  pub lost : Bool
  pub cut : Bool

module _ (since : MayBe) where
  -- byte i of the words is v, in each value that a cut may leave
  pub record WordsKeep (words : List (List ℕ)) (i : ℕ) (v : Option ℕ) : Type 0 where
    pub history : List ℕ
    pub there : slice_get words (i / 8) ≡ Some history
    pub word : WordKeeps since.cut history (i % 8) v

  -- The line is bad and has no byte, or it has this byte in each value. It is lost or weak only where it may be.
  abbrev pub LineKeeps : Option Cell → ℕ → Option ℕ → Type 0
  LineKeeps None i v = ⊥
  LineKeeps (Some Bad) i v = (v ≡ None) ⊎ (since.lost ≡ true)
  LineKeeps (Some (Kept weak words)) i v = (weak ≡ true → since.weak ≡ true) × WordsKeep words i v

  -- so it has the byte, or is lost
  pub line_has-kept : (o : Option Cell) (i : ℕ) (v : Option ℕ) → LineKeeps o i v → HasOrLost since.lost (line_has o i) v
  line_has-kept None i v keeps = absurd keeps
  line_has-kept (Some Bad) i v (inl none) = inl (sym none)
  line_has-kept (Some Bad) i v (inr hurt) = inr (refl, hurt)
  line_has-kept (Some (Kept weak words)) i v keeps =
      let w = keeps.1 in
      inl (ap (λ h. Some (byte_at (i % 8) (newest h))) (get_or_from_slice_get words (i / 8) w.history [] w.there) ∙ w.word.last)

  -- a line that was made durable has each byte that it has
  pub line_keeps-flushed : (cell : Cell) (i : ℕ) → i < 64 → IsLineThere (Some cell) → LineKeeps (Some (flush_cell cell)) i (line_has (Some (flush_cell cell)) i)
  line_keeps-flushed Bad i lt size = inl refl
  line_keeps-flushed (Kept true words) i lt size = inl refl
  line_keeps-flushed (Kept false words) i lt size =
      let history = slice_index_or words (i / 8) [] in
      let found : slice_get (map latest words) (i / 8) ≡ Some (latest history) =
      slice_get-map latest words (i / 8) ∙ ap (option_map latest) (slice_get-get_or words (i / 8) [] (omega (arith, size))) in
      let same : slice_index_or (map latest words) (i / 8) [] ≡ latest history = get_or_from_slice_get (map latest words) (i / 8) (latest history) [] found in (
        λ weak. cc weak,
        record {
          history = latest history;
          there = found;
          word = subst (λ h. WordKeeps since.cut (latest history) (i % 8) (Some (byte_at (i % 8) (newest h)))) (sym same) (word_keeps-latest since.cut history (i % 8));
        },
      )

  -- a flush keeps it, whether it touches the line or not
  pub line_keeps-flush : (touched : Bool) (i : ℕ) (v : Option ℕ) (cell : Cell) → (touched ≡ true → since.weak ≡ true → since.lost ≡ true) → LineKeeps (Some cell) i v
      → LineKeeps (Some (cond touched (flush_cell cell) cell)) i v
  line_keeps-flush false i v cell loses keeps = keeps
  line_keeps-flush true i v Bad loses keeps = keeps
  line_keeps-flush true i v (Kept true words) loses keeps = inr (loses refl (keeps.0 refl))
  line_keeps-flush true i v (Kept false words) loses keeps = (
    λ weak. cc weak,
    record {
      history = latest keeps.1.history;
      there = slice_get-map latest words (i / 8) ∙ ap (option_map latest) keeps.1.there;
      word = word_keeps-flushed since.cut keeps.1.history (i % 8) v keeps.1.word;
    },
  )

  -- bytes that don't reach the byte don't cover its line
  not_covered : (at len i : ℕ) → is_among at len i ≡ false → covers at len (i / 64) ≡ true → ⊥
  not_covered at len i out covered = grind (arith, nat_tests)

  words_keep-stored : (at i : ℕ) (v : Option ℕ) (bytes : List ℕ) (words : List (List ℕ)) → ((k : ℕ) → get_or bytes k 0 < 256) → is_among at (length bytes) i ≡ false
      → WordsKeep words (i % 64) v → WordsKeep (map_from (word_stored at bytes) (8 * (i / 64)) words) (i % 64) v
  words_keep-stored at i v bytes words small out keeps =
      let place : 8 * (8 * (i / 64) + (i % 64) / 8) + (i % 64) % 8 ≡ i = omega arith in
      record {
        history = word_stored at bytes (8 * (i / 64) + (i % 64) / 8) keeps.history;
        there = slice_get-map_from (word_stored at bytes) (8 * (i / 64)) words ((i % 64) / 8)
            ∙ ap (option_map (word_stored at bytes (8 * (i / 64) + (i % 64) / 8))) keeps.there;
        word = word_keeps-stored since.cut at (8 * (i / 64) + (i % 64) / 8) ((i % 64) % 8) bytes keeps.history v small (omega arith)
            (ap (is_among at (length bytes)) place ∙ out) keeps.word;
      }

  -- a store elsewhere keeps it
  pub line_keeps-put : (at i : ℕ) (v : Option ℕ) (bytes : List ℕ) (cell : Cell) → ((k : ℕ) → get_or bytes k 0 < 256) → is_among at (length bytes) i ≡ false
      → LineKeeps (Some cell) (i % 64) v → LineKeeps (Some (put_cell at bytes (i / 64) cell)) (i % 64) v
  line_keeps-put at i v bytes Bad small out keeps = by_test (covers at (length bytes) (i / 64)) refl
    where
      by_test : (b : Bool) → covers at (length bytes) (i / 64) ≡ b
          → LineKeeps (Some (cond b (Kept false (map_from (word_stored at bytes) (8 * (i / 64)) (replicate 8 (0 ∷ [])))) Bad)) (i % 64) v
      by_test true is = absurd (not_covered at (length bytes) i out is)
      by_test false is = keeps
  line_keeps-put at i v bytes (Kept weak words) small out keeps = (keeps.0, words_keep-stored at i v bytes words small out keeps.1)

  -- and so does one that was stopped
  pub line_keeps-may_put : (at i : ℕ) (v : Option ℕ) (bytes : List ℕ) (cell new : Cell) → ((k : ℕ) → get_or bytes k 0 < 256) → is_among at (length bytes) i ≡ false
      → LineKeeps (Some cell) (i % 64) v → MayPut at bytes (i / 64) cell new → LineKeeps (Some new) (i % 64) v
  line_keeps-may_put at i v bytes Bad new small out keeps (inl still) = subst (λ c. LineKeeps (Some c) (i % 64) v) {x = Bad} (sym still) keeps
  line_keeps-may_put at i v bytes Bad new small out keeps (inr may) = absurd (not_covered at (length bytes) i out may.0)
  line_keeps-may_put at i v bytes (Kept weak words) Bad small out keeps may = absurd may
  line_keeps-may_put at i v bytes (Kept weak words) (Kept mark mixed) small out keeps may =
      let put_there = words_keep-stored at i v bytes words small out keeps.1 in (
        λ weak. keeps.0 (sym may.0 ∙ weak),
        elim (may.1.each ((i % 64) / 8)) as (λ _. WordsKeep mixed (i % 64) v) [
          | inl old ↦ record { history = keeps.1.history; there = old ∙ keeps.1.there; word = keeps.1.word }
          | inr stored ↦ record { history = put_there.history; there = stored ∙ put_there.there; word = put_there.word }
        ],
      )

  -- what a restart left of it
  pub line_keeps-read : (choice : Choice) (image : Image) (n i : ℕ) (v : Option ℕ) (cell : Cell) → since.cut ≡ true → i < 64 → LineKeeps (Some cell) i v
      → KeepsCell choice image n cell
      → LineKeeps (Some (read_cell image n)) i v
  line_keeps-read choice image n i v Bad cuts lt keeps bad =
      subst (λ b. LineKeeps (Some (cond b Bad (Kept (image.is_weak n) (list_from (λ p. image.word p ∷ []) (8 * n) 8)))) i v) (sym bad) keeps
  line_keeps-read choice image n i v (Kept weak words) cuts lt keeps kept =
      subst (λ b. LineKeeps (Some (cond b Bad (Kept (image.is_weak n) (list_from (λ p. image.word p ∷ []) (8 * n) 8)))) i v) (sym kept.0) (
        λ weak. keeps.0 (sym kept.1 ∙ weak),
        record {
          history = image.word (8 * n + i / 8) ∷ [];
          there = slice_get-list_from (λ p. image.word p ∷ []) (8 * n) 8 (i / 8) (omega arith);
          word = word_keeps-one since.cut image.unit keeps.1.history (i % 8) (image.word (8 * n + i / 8)) v keeps.1.word cuts (kept.2 (i / 8) keeps.1.history keeps.1.there).was;
        },
      )

  pub line_keeps-zero : (i : ℕ) (v : Option ℕ) → i < 64 → v ≡ Some 0 → LineKeeps (Some zero_cell) i v
  line_keeps-zero i v lt is = subst (LineKeeps (Some zero_cell) i) (zero_shown i lt ∙ sym is) (line_keeps-flushed zero_cell i lt refl)

  -- what a line has is kept while no cut may come
  pub line_keeps-there : (cell : Cell) (i : ℕ) → since.cut ≡ false → (is_weak_line (Some cell) ≡ true → since.weak ≡ true) → i < 64 → IsLineThere (Some cell)
      → LineKeeps (Some cell) i (line_has (Some cell) i)
  line_keeps-there Bad i uncut may lt size = inl refl
  line_keeps-there (Kept weak words) i uncut may lt size =
      let history = slice_index_or words (i / 8) [] in (
        may,
        record {
          history = history;
          there = slice_get-get_or words (i / 8) [] (omega (arith, size));
          word = record { each = λ cuts. absurd (both_ways since.cut uncut cuts); last = refl };
        },
      )

  -- what a lost line has is kept
  pub lost-kept : (o : Option Cell) (i : ℕ) → line_has o i ≡ None → LineKeeps o i None
  lost-kept None i lost = cc lost
  lost-kept (Some Bad) i lost = inl refl
  lost-kept (Some (Kept weak words)) i lost = cc lost
