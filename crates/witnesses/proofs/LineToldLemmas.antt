-- What is told of lines: what fits it fits the question too, and what is kept fits it.
use Rattle.std.proofs.Common.{◌≡◌, ℕ, ◌+◌, ◌*◌, ◌<◌, ◌==◌, Bool, true, false, List, [], ◌++◌, map, Option, slice_index, slice_index_or, refl, sym, ap, ◌∙◌, arith}
use Rattle.std.specs.Int.{byte_at}
use Rattle.std.specs.List.{list_all, list_any}
use Rattle.std.proofs.lemmas.Bool.{and_from, and_parts, eqb-false, eqb-true}
use Rattle.std.proofs.lemmas.List.Folds.{list_all-append, list_all-map}
use Rattle.nvm_model.specs.Cell.{Cell}
use Rattle.nvm_model.specs.Cell.Cell.{Bad, Kept}
use Rattle.nvm_model.specs.Numbered.{list_from}
use Rattle.cut_places.specs.Outcomes.Pages.{PageRead, agrees, all_agree, all_allow_bad, all_allow_good, allows_bad, allows_good, line_fits, words_fit}
use Rattle.cut_places.specs.Outcomes.Pages.PageReply.{Shows}
use Rattle.cut_places.specs.AskedReads.Fitting.{cell_fits}
use Rattle.cut_places.specs.SightsSeen.declared.line_seen.LineSeen.{LineSeen}
use Rattle.cut_places.specs.SightsSeen.Seeing.{or_zeros}
use Rattle.cut_places.proofs.SightsSeen.ShowLemmas.{fits_seen}
use Rattle.witnesses.specs.Lines.{first_agreed, left_of}
use Rattle.witnesses.specs.Telling.{bytes_of_words, line_reply}
use Rattle.witnesses.proofs.ListLemmas.{IsAmong, all_from, all_of, any_in, any_more, found, range_all, range_each}
use Rattle.witnesses.proofs.WordLemmas.{agrees_told, all_agree_same, bad_told, bytes_told, item_from, not_bad, not_good, other_agrees, other_bad, other_good}

-- a line of that number, told as what reads may find of this cell
abbrev pub told_as : {A : Type 0} → (A → ℕ) → List PageRead → (A → Cell) → A → PageRead
told_as place reads cell s = record { start = 64 * place s; len = 64; reply = line_reply (place s) (left_of reads (place s) (cell s)) }

-- a line that is looked at, told so
abbrev pub line_told_as : List PageRead → (LineSeen → Cell) → LineSeen → PageRead
line_told_as reads cell s = told_as (λ (t : LineSeen). t.number) reads cell s

module _ {A : Type 0} (place : A → ℕ) (reads : List PageRead) (lines : List A) (cell : A → Cell) (fits : (s : A) → IsAmong s lines → cell_fits reads (place s) (cell s) ≡ true)
    (alike : (s t : A) → IsAmong s lines → IsAmong t lines → place s ≡ place t → cell s ≡ cell t) where
  -- all that is told
  abbrev pub tale : List PageRead
  tale = map (told_as place reads cell) lines

  -- the words that are kept of a line that is not bad
  kept_words : ℕ → List (List ℕ) → List ℕ
  kept_words n words = list_from (λ w. first_agreed reads (8 * n + w) (slice_index_or words w [])) 0 8

  kept_word : (n : ℕ) (words : List (List ℕ)) (w : ℕ) → w < 8 → slice_index (kept_words n words) w ≡ first_agreed reads (8 * n + w) (slice_index_or words w [])
  unfolding kept_words
  kept_word n words w word =
      item_from (λ w. first_agreed reads (8 * n + w) (slice_index_or words w [])) 0 8 w word ∙ ap (λ w. first_agreed reads (8 * n + w) (slice_index_or words w [])) (omega arith)

  -- of each told read by which line it is of
  each_told : (test : PageRead → Bool) (s : A) → IsAmong s lines
      → ((t : A) → IsAmong t lines → (place t ≡ place s → ⊥) → test (told_as place reads cell t) ≡ true)
      → ((t : A) → place t ≡ place s → cell t ≡ cell s → test (told_as place reads cell t) ≡ true) → list_all test tale ≡ true
  each_told test s is others same =
      list_all-map test (told_as place reads cell) lines
      ∙ all_from (λ t. test (told_as place reads cell t)) lines (λ t among. by_number t among (place t == place s) refl)
    where
      by_number : (t : A) → IsAmong t lines → (b : Bool) → (place t == place s) ≡ b → test (told_as place reads cell t) ≡ true
      by_number t among true at = let number = eqb-true (place t) (place s) at in same t number (alike t s among is number)
      by_number t among false at = others t among (eqb-false (place t) (place s) at)

  -- what is kept of a line fits all that is told
  module _ (s : A) (is : IsAmong s lines) where
    module _ (weak : Bool) (words : List (List ℕ)) (good : cell s ≡ Kept weak words) where
      reply_is : (t : A) → place t ≡ place s → cell t ≡ cell s
          → line_reply (place t) (left_of reads (place t) (cell t)) ≡ Shows (bytes_of_words (kept_words (place s) words))
      unfolding kept_words
      reply_is t number same = ap (λ n. line_reply n (left_of reads n (cell t))) number ∙ ap (λ c. line_reply (place s) (left_of reads (place s) c)) (same ∙ good)

      good_parts : (all_allow_good reads (place s) ≡ true) × (words_fit reads (place s) words ≡ true)
      good_parts = and_parts (all_allow_good reads (place s)) (words_fit reads (place s) words) (sym (ap (cell_fits reads (place s)) good) ∙ fits s is)

      word_found : (w : ℕ) → w < 8 → list_any (all_agree reads (8 * place s + w)) (slice_index_or words w []) ≡ true
      word_found w word = range_each (λ w. list_any (all_agree reads (8 * place s + w)) (slice_index_or words w [])) 0 8 good_parts.1 w (omega arith) (omega (arith, word))

      tale_good : all_allow_good tale (place s) ≡ true
      tale_good =
          each_told (λ (r : PageRead). allows_good (place s) r.reply) s is
          (λ t among other. other_good (place t) (place s) other (left_of reads (place t) (cell t)))
          (λ t number same. ap (allows_good (place s)) (reply_is t number same))

      tale_agrees : (w v : ℕ) → w < 8 → v ≡ first_agreed reads (8 * place s + w) (slice_index_or words w []) → all_agree tale (8 * place s + w) v ≡ true
      tale_agrees w v word value =
          each_told (λ (r : PageRead). agrees (8 * place s + w) v r.start r.len r.reply) s is
          (λ t among other. other_agrees (place t) (place s) other (left_of reads (place t) (cell t)) w v word)
          (λ t number same.
          ap (λ n. agrees (8 * place s + w) v (64 * n) 64 (line_reply (place t) (left_of reads (place t) (cell t)))) number
          ∙ ap (agrees (8 * place s + w) v (64 * place s) 64) (reply_is t number same)
          ∙ agrees_told (place s) (kept_words (place s) words) w word v (λ k byte. ap (byte_at k) (kept_word (place s) words w word ∙ sym value)))

      good_fits : cell_fits tale (place s) (Kept weak words) ≡ true
      good_fits =
          and_from (all_allow_good tale (place s)) (words_fit tale (place s) words) tale_good
          (range_all (λ w. list_any (all_agree tale (8 * place s + w)) (slice_index_or words w [])) 0 8
          (λ w from word.
          let one = found (all_agree reads (8 * place s + w)) (slice_index_or words w []) (word_found w (omega (arith, word))) in
          any_in (all_agree tale (8 * place s + w)) (first_agreed reads (8 * place s + w) (slice_index_or words w [])) (slice_index_or words w []) one.0
          (tale_agrees w (first_agreed reads (8 * place s + w) (slice_index_or words w [])) (omega (arith, word)) refl)))

    pub kept_fits : cell_fits tale (place s) (cell s) ≡ true
    kept_fits = by_cell (cell s) refl
      where
        by_cell : (c : Cell) → cell s ≡ c → cell_fits tale (place s) c ≡ true
        by_cell Bad bad =
            each_told (λ (r : PageRead). allows_bad (place s) r.start r.len r.reply) s is
            (λ t among other. other_bad (place t) (place s) other (left_of reads (place t) (cell t)))
            (λ t number same.
            ap (λ n. allows_bad (place s) (64 * n) 64 (line_reply n (left_of reads n (cell t)))) number
            ∙ ap (λ c. allows_bad (place s) (64 * place s) 64 (line_reply (place s) (left_of reads (place s) c))) (same ∙ bad)
            ∙ bad_told (place s))
        by_cell (Kept weak words) good = good_fits weak words good

    -- what is told of the line itself
    own_told : (test : PageRead → Bool) → list_all test tale ≡ true → test (told_as place reads cell s) ≡ true
    own_told test all = all_of (λ t. test (told_as place reads cell t)) s lines (sym (list_all-map test (told_as place reads cell) lines) ∙ all) is

    both : (test : PageRead → Bool) → list_all test reads ≡ true → list_all test tale ≡ true → list_all test (reads ++ tale) ≡ true
    both test asked told = list_all-append test reads tale ∙ and_from (list_all test reads) (list_all test tale) asked told

    module _ (bad : cell s ≡ Bad) where
      -- a line that is told to be bad
      bad_asked : all_allow_bad reads (place s) ≡ true
      bad_asked = sym (ap (cell_fits reads (place s)) bad) ∙ fits s is

      as_bad : (c : Cell) → cell_fits tale (place s) c ≡ true → cell_fits (reads ++ tale) (place s) c ≡ true
      as_bad Bad told = both (λ (r : PageRead). allows_bad (place s) r.start r.len r.reply) bad_asked told
      as_bad (Kept weak words) told =
          let good = (and_parts (all_allow_good tale (place s)) (words_fit tale (place s) words) told).0 in
          absurd (not_good (place s) (sym (ap (λ c. allows_good (place s) (line_reply (place s) (left_of reads (place s) c))) bad) ∙ own_told (λ (r : PageRead). allows_good (place s) r.reply) good))

    module _ (weak : Bool) (words : List (List ℕ)) (good : cell s ≡ Kept weak words) where
      -- a value that is told has the bytes of the one that is kept, on which all reads agree
      word_asked : (w : ℕ) → w < 8 → (v : ℕ) → all_agree tale (8 * place s + w) v ≡ true → all_agree (reads ++ tale) (8 * place s + w) v ≡ true
      word_asked w word v told =
          let p = 8 * place s + w in
          let kept = first_agreed reads p (slice_index_or words w []) in
          let agreed = (found (all_agree reads p) (slice_index_or words w []) (word_found weak words good w word)).1 in
          let own : agrees p v (64 * place s) 64 (Shows (bytes_of_words (kept_words (place s) words))) ≡ true =
          sym (ap (agrees p v (64 * place s) 64) (reply_is weak words good s refl refl)) ∙ own_told (λ (r : PageRead). agrees p v r.start r.len r.reply) told in
          both (λ (r : PageRead). agrees p v r.start r.len r.reply)
          (all_agree_same v kept (λ k byte. ap (byte_at k) (sym (kept_word (place s) words w word)) ∙ bytes_told (place s) (kept_words (place s) words) w word v own k byte) reads p agreed)
          told

      as_good : (c : Cell) → cell_fits tale (place s) c ≡ true → cell_fits (reads ++ tale) (place s) c ≡ true
      as_good Bad told =
          absurd (not_bad (place s) (bytes_of_words (kept_words (place s) words))
          (sym (ap (allows_bad (place s) (64 * place s) 64) (reply_is weak words good s refl refl)) ∙ own_told (λ (r : PageRead). allows_bad (place s) r.start r.len r.reply) told))
      as_good (Kept mark histories) told =
          let parts = and_parts (all_allow_good tale (place s)) (words_fit tale (place s) histories) told in
          and_from (all_allow_good (reads ++ tale) (place s)) (words_fit (reads ++ tale) (place s) histories)
          (both (λ (r : PageRead). allows_good (place s) r.reply) (good_parts weak words good).0 parts.0)
          (range_all (λ w. list_any (all_agree (reads ++ tale) (8 * place s + w)) (slice_index_or histories w [])) 0 8
          (λ w from word.
          any_more (all_agree tale (8 * place s + w)) (all_agree (reads ++ tale) (8 * place s + w)) (slice_index_or histories w [])
          (word_asked w (omega (arith, word)))
          (range_each (λ w. list_any (all_agree tale (8 * place s + w)) (slice_index_or histories w [])) 0 8 parts.1 w from word)))

    as_told : (c : Cell) → cell_fits tale (place s) c ≡ true → cell_fits (reads ++ tale) (place s) c ≡ true
    as_told c told = by_kept (cell s) refl
      where
        by_kept : (k : Cell) → cell s ≡ k → cell_fits (reads ++ tale) (place s) c ≡ true
        by_kept Bad bad = as_bad bad c told
        by_kept (Kept weak words) good = as_good weak words good c told

    -- what fits all that is told fits the question and all that is told
    pub told_fits : (o : Option Cell) → line_fits tale (place s) o ≡ true → line_fits (reads ++ tale) (place s) o ≡ true
    told_fits o told =
        fits_seen (reads ++ tale) (place s) o ∙ as_told (or_zeros o) (sym (fits_seen tale (place s) o) ∙ told)
