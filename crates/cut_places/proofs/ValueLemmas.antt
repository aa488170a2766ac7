-- Whatever is done to a line, each of its words keeps a value.
use Rattle.std.proofs.Common.{◌≡◌, ℕ, zero, suc, ◌*◌, ◌<◌, ◌≤◌, ◌==◌, Bool, true, false, cond, List, [], ◌∷◌, ◌++◌, length, map, replicate, refl, ap, subst, sym, ◌∙◌, arith}
use Rattle.std.specs.Prelude.{slice_index_or}
use Rattle.std.proofs.lemmas.List.{length-append}
use Rattle.line_device.specs.History.{latest, newest}
use Rattle.line_device.specs.Medium.{word_stored}
use Rattle.line_device.specs.Word.{reaches, word_over}
use Rattle.nvm_model.specs.Cell.{Cell, clear_cell, covers, flush_cell, lose_cell, put_cell, touches, weaken_cell, zero_cell}
use Rattle.nvm_model.specs.Cell.Cell.{Bad, Kept}
use Rattle.nvm_model.specs.Numbered.{is_among, map_from}
use Rattle.sights.specs.Changing.{LinesChange, line_changed}
use Rattle.sights.specs.Changing.LinesChange.{Nothing, Puts, Persists, Zeroes, Loses, Weakens, Clears}
use Rattle.cut_places.specs.Enough.{HasEach, HasWords, HaveOne}

pub word_has : (words : List (List ℕ)) (w : ℕ) → w < length words → HaveOne words → 1 ≤ length (slice_index_or words w [])
word_has [] w lt have = absurd (omega (arith, lt))
word_has (history ∷ words) zero lt have = have.0
word_has (history ∷ words) (suc w) lt have = word_has words w (omega (arith, lt)) have.1

zeros_have : (count : ℕ) → HaveOne (replicate count (0 ∷ []))
zeros_have zero = tt
zeros_have (suc count) = (omega arith, zeros_have count)

pub zero_has : HasWords zero_cell
zero_has = (refl, zeros_have 8)

stored_has : (at : ℕ) (bytes : List ℕ) (p : ℕ) (history : List ℕ) → 1 ≤ length history → 1 ≤ length (word_stored at bytes p history)
stored_has at bytes p history some = by_test (reaches at (length bytes) p)
  where
    by_test : (b : Bool) → 1 ≤ length (cond b (history ++ word_over at bytes p (newest history) ∷ []) history)
    by_test true = omega (arith, length-append history (word_over at bytes p (newest history) ∷ []), some)
    by_test false = some

latest_has : (history : List ℕ) → 1 ≤ length history → 1 ≤ length (latest history)
latest_has [] some = some
latest_has (x ∷ []) some = omega arith
latest_has (x ∷ y ∷ ys) some = latest_has (y ∷ ys) (omega arith)

stored_words : (at : ℕ) (bytes : List ℕ) (n : ℕ) (words : List (List ℕ)) → HaveOne words → HaveOne (map_from (word_stored at bytes) n words)
stored_words at bytes n [] have = tt
stored_words at bytes n (history ∷ words) have = (stored_has at bytes n history have.0, stored_words at bytes (suc n) words have.1)

stored_length : (f : ℕ → List ℕ → List ℕ) (n : ℕ) (words : List (List ℕ)) → length (map_from f n words) ≡ length words
stored_length f n [] = refl
stored_length f n (history ∷ words) = ap suc (stored_length f (suc n) words)

latest_words : (words : List (List ℕ)) → HaveOne words → HaveOne (map latest words)
latest_words [] have = tt
latest_words (history ∷ words) have = (latest_has history have.0, latest_words words have.1)

latest_length : (words : List (List ℕ)) → length (map latest words) ≡ length words
latest_length [] = refl
latest_length (history ∷ words) = ap suc (latest_length words)

pub put_has : (at : ℕ) (bytes : List ℕ) (n : ℕ) (cell : Cell) → HasWords cell → HasWords (put_cell at bytes n cell)
put_has at bytes n Bad have = by_test (covers at (length bytes) n)
  where
    by_test : (b : Bool) → HasWords (cond b (Kept false (map_from (word_stored at bytes) (8 * n) (replicate 8 (0 ∷ [])))) Bad)
    by_test true = (stored_length (word_stored at bytes) (8 * n) (replicate 8 (0 ∷ [])), stored_words at bytes (8 * n) (replicate 8 (0 ∷ [])) (zeros_have 8))
    by_test false = tt
put_has at bytes n (Kept weak words) have = (stored_length (word_stored at bytes) (8 * n) words ∙ have.0, stored_words at bytes (8 * n) words have.1)

flush_has : (cell : Cell) → HasWords cell → HasWords (flush_cell cell)
flush_has Bad have = tt
flush_has (Kept true words) have = tt
flush_has (Kept false words) have = (latest_length words ∙ have.0, latest_words words have.1)

pub flushed_has : (touched : Bool) (cell : Cell) → HasWords cell → HasWords (cond touched (flush_cell cell) cell)
flushed_has true cell have = flush_has cell have
flushed_has false cell have = have

pub cleared_has : (b : Bool) (cell : Cell) → HasWords cell → HasWords (cond b (clear_cell cell) cell)
cleared_has true Bad have = zero_has
cleared_has true (Kept weak words) have = have
cleared_has false cell have = have

pub gone_has : (b : Bool) (cell : Cell) → HasWords cell → HasWords (cond b zero_cell cell)
gone_has true cell have = zero_has
gone_has false cell have = have

weakened_has : (b : Bool) (cell : Cell) → HasWords cell → HasWords (cond b (weaken_cell cell) cell)
weakened_has true Bad have = tt
weakened_has true (Kept weak words) have = have
weakened_has false cell have = have

lost_has : (b : Bool) (cell : Cell) → HasWords cell → HasWords (cond b (lose_cell cell) cell)
lost_has true cell have = tt
lost_has false cell have = have

-- what a command makes of a line
pub changed_has : (change : LinesChange) (n : ℕ) (cell : Cell) → HasWords cell → HasWords (line_changed change n cell)
changed_has Nothing n cell have = have
changed_has (Puts at bytes) n cell have = put_has at bytes n cell have
changed_has (Persists start len) n cell have = flushed_has (touches start len n) cell have
changed_has (Zeroes first count) n cell have = gone_has (is_among first count n) cell have
changed_has (Loses line) n cell have = lost_has (n == line) cell have
changed_has (Weakens line) n cell have = weakened_has (n == line) cell have
changed_has (Clears line) n cell have = cleared_has (n == line) cell have

-- each word of a line that has words has a value
pub each_of : (line : Cell) → HasWords line → HasEach line
each_of Bad has = tt
each_of (Kept weak words) has = λ w lt. word_has words w (subst (λ m. w < m) (sym has.0) lt) has.1
