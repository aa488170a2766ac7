-- Bytes put into one line, in part and whole.
use Rattle.std.proofs.Common.{◌≡◌, ◌⊎◌, ◌≤◌, ℕ, ◌+◌, ◌-◌, ◌*◌, ◌/◌, ◌%◌, ◌<◌, min, max, Bool, true, false, cond, Option, Some, Result, Ok, Err, MatchResult, OnOk, OnErr, List, [], ◌∷◌, length, replicate, slice_get, get_or, refl, sym, ap, subst, ◌∙◌, inl, inr, arith}
use Rattle.std.proofs.lemmas.Bool.{cases_lt, and_parts, and_from, leb-true, ltb-true, lt-ltb, false≢true}
use Rattle.std.proofs.lemmas.Option.{slice_get_within}
use Rattle.line_device.specs.History.{WordWritesBack}
use Rattle.line_device.specs.Medium.{Medium, WritesBack, stored, cleared, word_stored}
use Rattle.line_device.proofs.HistoryLemmas.{word_write_back-refl, word_write_back-trans}
use Rattle.line_device.proofs.WriteBackLemmas.{on_line-in}
use Rattle.line_words.proofs.BesideLemmas.{beside-stored}
use Rattle.nvm_model.specs.Numbered.{map_from}
use Rattle.nvm_model.specs.Cell.{Cell, CellStands, put_cell, touches, covers}
use Rattle.nvm_model.specs.Cell.Cell.{Bad, Kept}
use Rattle.nvm_model.specs.Interrupted.{MayPut}
use Rattle.nvm_model.specs.Numbered.{AreMixed}
use Rattle.nvm_model.proofs.MediaLemmas.{cell_stands-zeros}
use Rattle.nvm_model.proofs.NumberedLemmas.{slice_get-map_from, length-map_from}
use Rattle.nvm_model.proofs.StandLemmas.{changed_from, word_write_back-strong, word_write_back-word_stored}
use Rattle.page_lines.specs.Turns.{Turns, MayTurn, WritesBackOthers, healed}
use Rattle.page_lines.proofs.OthersLemmas.{others-wider, others-write_back, others-beside}
use Rattle.page_lines.proofs.TurnLemmas.{stands-write_back}
use Rattle.page_lines.proofs.PieceLemmas.{word_stored-out, word_stored-part}

-- a line at another's number, both with the same done to each word
stands-put : (m b : Medium) (line n at : ℕ) (weak : Bool) (bytes : List ℕ) (words : List (List ℕ)) → CellStands m line (Kept weak words)
    → b.is_bad line ≡ false → b.is_weak line ≡ weak
    → ((w : ℕ) → w < 8 → WordWritesBack false (word_stored at bytes (8 * n + w) (m.history (8 * line + w))) (b.history (8 * line + w)))
    → CellStands b line (Kept weak (map_from (word_stored at bytes) (8 * n) words))
stands-put m b line n at weak bytes words stands healthy mark done = (healthy, mark, length-map_from _ (8 * n) words ∙ stands.2, each)
  where
    each : (w : ℕ) (history : List ℕ) → slice_get (map_from (word_stored at bytes) (8 * n) words) w ≡ Some history → WordWritesBack false history (b.history (8 * line + w))
    each w history is =
        let was = changed_from (word_stored at bytes (8 * n + w)) (slice_get words w) history (sym (slice_get-map_from (word_stored at bytes) (8 * n) words w) ∙ is) in
        let small : w < 8 = omega (arith, slice_get_within words w was.0 was.1, stands.2) in
        subst (λ h. WordWritesBack false h (b.history (8 * line + w))) (sym was.2)
        (word_write_back-trans false _ _ _ (word_write_back-word_stored at (8 * n + w) bytes was.0 (m.history (8 * line + w)) (stands.3 w was.0 was.1)) (done w small))

untouched_word : (at len n w : ℕ) → w < 8 → touches at len n ≡ false → (8 * (8 * n + w) + 8 ≤ at) ⊎ (at + len ≤ 8 * (8 * n + w))
untouched_word at len n w small not =
    elim (cases_lt at (64 * n + 64)) as (λ _. (8 * (8 * n + w) + 8 ≤ at) ⊎ (at + len ≤ 8 * (8 * n + w))) [
      | inl low ↦
          elim (cases_lt (64 * n) (at + len)) as (λ _. (8 * (8 * n + w) + 8 ≤ at) ⊎ (at + len ≤ 8 * (8 * n + w))) [
            | inl high ↦ absurd (false≢true (sym not ∙ and_from _ _ (lt-ltb at (64 * n + 64) low) (lt-ltb (64 * n) (at + len) high)))
            | inr past ↦ inr (omega (arith, past))
          ]
      | inr before ↦ inl (omega (arith, before, small))
    ]

-- the piece stored that falls on the line
pub turns-stored : (m new : Medium) (line n at start : ℕ) (bytes piece : List ℕ) → m.is_bad line ≡ false → touches at (length bytes) n ≡ true → start ≡ max at (64 * n)
    → start + length piece ≡ min (at + length bytes) (64 * n + 64) → ((k : ℕ) → k < length piece → get_or piece k 0 ≡ get_or bytes (start - at + k) 0)
    → WritesBack (stored m line (start % 64) piece) new → Turns (put_cell at bytes n) line m new
turns-stored m new line n at start bytes piece healthy touched from to same x = record { stands = by_cell }
  where
    by_cell : (cell : Cell) → CellStands m line cell → CellStands new line (put_cell at bytes n cell)
    by_cell Bad stands = absurd (false≢true (sym healthy ∙ stands))
    by_cell (Kept weak words) stands =
        stands-put m new line n at weak bytes words stands (x.bad line ∙ healthy) (x.weak line ∙ stands.1)
        (λ w small.
        let on : (8 * line + w) / 8 ≡ line = omega arith in
        let word : (8 * line + w) % 8 ≡ w = omega arith in
        let parts = and_parts _ _ touched in
        let low = ltb-true at (64 * n + 64) parts.0 in
        let high = ltb-true (64 * n) (at + length bytes) parts.1 in
        let is = on_line-in line (word_stored (start % 64) piece) m.history (8 * line + w) on
        ∙ ap (λ v. word_stored (start % 64) piece v (m.history (8 * line + w))) word
        ∙ word_stored-part at n w start bytes piece (m.history (8 * line + w)) small from to high low same in
        subst (λ h. WordWritesBack false h (new.history (8 * line + w))) is
        (word_write_back-strong (m.is_weak ((8 * line + w) / 8)) _ _ (x.word_write_back (8 * line + w))))

-- bytes that don't touch a line leave it
covers-touches : (at len n : ℕ) → 1 ≤ len → covers at len n ≡ true → touches at len n ≡ true
covers-touches at len n some is =
    let parts = and_parts _ _ is in
    let low = leb-true at (64 * n) parts.0 in
    let high = leb-true (64 * n + 64) (at + len) parts.1 in
    and_from _ _ (lt-ltb at (64 * n + 64) (omega (arith, low))) (lt-ltb (64 * n) (at + len) (omega (arith, high)))

pub turns-unput : (line n at : ℕ) (bytes : List ℕ) (m : Medium) → 1 ≤ length bytes → touches at (length bytes) n ≡ false → Turns (put_cell at bytes n) line m m
turns-unput line n at bytes m some not = record { stands = by_cell }
  where
    uncovered : (t : Bool) → covers at (length bytes) n ≡ t → CellStands m line Bad
        → CellStands m line (cond t (Kept false (map_from (word_stored at bytes) (8 * n) (replicate 8 (0 ∷ [])))) Bad)
    uncovered true is stands = absurd (false≢true (sym not ∙ covers-touches at (length bytes) n some is))
    uncovered false is stands = stands

    apart : (w : ℕ) → w < 8 → (8 * (8 * n + w) + 8 ≤ at) ⊎ (at + length bytes ≤ 8 * (8 * n + w))
    apart w small = untouched_word at (length bytes) n w small not

    by_cell : (cell : Cell) → CellStands m line cell → CellStands m line (put_cell at bytes n cell)
    by_cell Bad stands = uncovered (covers at (length bytes) n) refl stands
    by_cell (Kept weak words) stands =
        stands-put m m line n at weak bytes words stands stands.0 stands.1
        (λ w small.
        subst (λ h. WordWritesBack false h (m.history (8 * line + w))) (sym (word_stored-out at (8 * n + w) bytes (m.history (8 * line + w)) (apart w small)))
        (word_write_back-refl false (m.history (8 * line + w))))

-- what may be left
mixed-left : (f : List (List ℕ)) (words : List (List ℕ)) → AreMixed (List ℕ) words f words
mixed-left f words = record { length = refl; each = λ w. inl refl }

pub may_put-left : (at n : ℕ) (bytes : List ℕ) (cell : Cell) → MayPut at bytes n cell cell
may_put-left at n bytes Bad = inl refl
may_put-left at n bytes (Kept weak words) = (refl, mixed-left _ words)

mixed-put : (at n : ℕ) (bytes : List ℕ) (words : List (List ℕ)) → AreMixed (List ℕ) words (map_from (word_stored at bytes) (8 * n) words) (map_from (word_stored at bytes) (8 * n) words)
mixed-put at n bytes words = record { length = length-map_from _ (8 * n) words; each = λ w. inr refl }

pub may_put-done : (at n : ℕ) (bytes : List ℕ) (cell : Cell) → MayPut at bytes n cell (put_cell at bytes n cell)
may_put-done at n bytes (Kept weak words) = (refl, mixed-put at n bytes words)
may_put-done at n bytes Bad = by_test (covers at (length bytes) n) refl
  where
    zeros : List (List ℕ)
    zeros = replicate 8 (0 ∷ [])

    by_test : (t : Bool) → covers at (length bytes) n ≡ t → MayPut at bytes n Bad (cond t (Kept false (map_from (word_stored at bytes) (8 * n) (replicate 8 (0 ∷ [])))) Bad)
    by_test true is = inr (is, (refl, mixed-put at n bytes (replicate 8 (0 ∷ []))))
    by_test false is = inl refl

-- a line that was cleared where it is bad, and then not put or put
pub may_put-healed : (old b new : Medium) (line at n : ℕ) (bytes : List ℕ) → (old.is_bad line ≡ true → covers at (length bytes) n ≡ true)
    → Turns healed line old b → WritesBack b new → MayTurn (MayPut at bytes n) line old new
may_put-healed old b new line at n bytes poison x back = record { leaves = λ cell stands. (healed cell, by_cell cell stands, stands-write_back b new line (healed cell) back (x.stands cell stands)) }
  where
    by_cell : (cell : Cell) → CellStands old line cell → MayPut at bytes n cell (healed cell)
    by_cell Bad stands = inr (poison stands, (refl, mixed-left _ (replicate 8 (0 ∷ []))))
    by_cell (Kept weak words) stands = may_put-left at n bytes (Kept weak words)

pub turns-healed_put : (old b new : Medium) (line at n : ℕ) (bytes : List ℕ) → (old.is_bad line ≡ true → covers at (length bytes) n ≡ true)
    → Turns healed line old b → Turns (put_cell at bytes n) line b new → Turns (put_cell at bytes n) line old new
turns-healed_put old b new line at n bytes poison x y = record { stands = λ cell stands. by_cell cell stands (y.stands (healed cell) (x.stands cell stands)) }
  where
    by_cell : (cell : Cell) → CellStands old line cell → CellStands new line (put_cell at bytes n (healed cell)) → CellStands new line (put_cell at bytes n cell)
    by_cell Bad stands done =
        subst (λ t. CellStands new line (cond t (Kept false (map_from (word_stored at bytes) (8 * n) (replicate 8 (0 ∷ [])))) Bad)) (sym (poison stands)) done
    by_cell (Kept weak words) stands done = done

pub may_put-back : (old new : Medium) (line at n : ℕ) (bytes : List ℕ) → WritesBack old new → MayTurn (MayPut at bytes n) line old new
may_put-back old new line at n bytes x = record { leaves = λ cell stands. (cell, may_put-left at n bytes cell, stands-write_back old new line cell x stands) }

-- a bad line cleared
pub turns-cleared : (m new : Medium) (line : ℕ) → m.is_bad line ≡ true → WritesBack (cleared m line) new → Turns healed line m new
turns-cleared m new line bad x = record { stands = by_cell }
  where
    by_cell : (cell : Cell) → CellStands m line cell → CellStands new line (healed cell)
    by_cell Bad stands = cell_stands-zeros m new line x
    by_cell (Kept weak words) stands = absurd (false≢true (sym stands.0 ∙ bad))

pub turns-unhealed : (m : Medium) (line : ℕ) → m.is_bad line ≡ false → Turns healed line m m
turns-unhealed m line healthy = record { stands = by_cell }
  where
    by_cell : (cell : Cell) → CellStands m line cell → CellStands m line (healed cell)
    by_cell Bad stands = absurd (false≢true (sym healthy ∙ stands))
    by_cell (Kept weak words) stands = stands

-- calls that did so, or failed to
pub others-store : {A F : Type 0} (r : Result A F) (m new : Medium) (line at : ℕ) (bytes : List ℕ) → MatchResult r (λ _. WritesBack (stored m line at bytes) new) (λ _. WritesBack m new)
    → WritesBackOthers (λ n. n ≡ line) m new
others-store (Ok x) m new line at bytes h = others-beside (λ n. n ≡ line) m new (beside-stored m new line at bytes h)
others-store (Err e) m new line at bytes h = others-write_back (λ n. n ≡ line) m new h

-- told of the line that is there
pub ok_there : {A F : Type 0} (r : Result A F) (there : Option ℕ) (line : ℕ) (P : ℕ → Type 0) → there ≡ Some line → OnOk r (P line) → OnOk r ((at : ℕ) → there ≡ Some at → P at)
ok_there (Ok x) there line P is p = λ at here. let same : line ≡ at = cc in subst P same p
ok_there (Err e) there line P is p = tt

pub err_there : {A F : Type 0} (r : Result A F) (there : Option ℕ) (line : ℕ) (P : ℕ → Type 0) → there ≡ Some line → OnErr r (P line) → OnErr r ((at : ℕ) → there ≡ Some at → P at)
err_there (Ok x) there line P is p = tt
err_there (Err e) there line P is p = λ at here. let same : line ≡ at = cc in subst P same p

pub others_there : (there : Option ℕ) (line : ℕ) (a b : Medium) → there ≡ Some line → WritesBackOthers (λ n. n ≡ line) a b → WritesBackOthers (λ at. there ≡ Some at) a b
others_there there line a b is x = others-wider (λ n. n ≡ line) (λ at. there ≡ Some at) a b (λ n same. is ∙ ap (λ i. Some i) (sym same)) x

-- after a line was healed
pub err_healed : {A F : Type 0} (r : Result A F) (old b new : Medium) (line at n : ℕ) (bytes : List ℕ) → (old.is_bad line ≡ true → covers at (length bytes) n ≡ true)
    → Turns healed line old b → MatchResult r (λ _. Turns (put_cell at bytes n) line b new) (λ _. WritesBack b new) → OnErr r (MayTurn (MayPut at bytes n) line old new)
err_healed (Ok x) old b new line at n bytes poison h r = tt
err_healed (Err e) old b new line at n bytes poison h r = may_put-healed old b new line at n bytes poison h r

pub ok_healed : {A F : Type 0} (r : Result A F) (old b new : Medium) (line at n : ℕ) (bytes : List ℕ) → (old.is_bad line ≡ true → covers at (length bytes) n ≡ true)
    → Turns healed line old b → MatchResult r (λ _. Turns (put_cell at bytes n) line b new) (λ _. WritesBack b new) → OnOk r (Turns (put_cell at bytes n) line old new)
ok_healed (Ok x) old b new line at n bytes poison h r = turns-healed_put old b new line at n bytes poison h r
ok_healed (Err e) old b new line at n bytes poison h r = tt
