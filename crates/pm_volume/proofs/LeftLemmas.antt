-- Lines that a store or a sync of others keeps, and what a restart leaves of them.
use Rattle.std.proofs.Common.{◌≡◌, ◌⊎◌, inl, inr, ℕ, suc, ◌+◌, ◌*◌, ◌/◌, ◌%◌, ◌<◌, ◌≤◌, Bool, true, false, cond, Option, Some, None, option_map, option_and_then, List, [], ◌∷◌, length, replicate, slice_get, refl, sym, ap, subst, ◌∙◌, arith}
use Rattle.std.proofs.lemmas.Bool.{cases_lt, and_from, lt-ltb, false≢true}
use Rattle.std.proofs.lemmas.Bool.Decides.{nat_tests}
use Rattle.std.proofs.lemmas.List.{get_or-replicate, length-replicate}
use Rattle.std.proofs.lemmas.Option.{same_Some, slice_get-get_or, slice_get_within}
use Rattle.line_device.specs.Medium.{Medium, word_stored}
use Rattle.nvm_model.specs.Cell.{Cell, covers, flush_cell, persist_cell, put_cell, touches, zero_cell}
use Rattle.nvm_model.specs.Cell.Cell.{Bad, Kept}
use Rattle.nvm_model.specs.Interrupted.{Became, MayPersist, MayPut, MayStore, MaySync}
use Rattle.nvm_model.specs.Numbered.{map_from}
use Rattle.nvm_model.specs.Page.{Page, PagesStand, cell_in, cell_of, fill, fill_page, persist, put, touches_page}
use Rattle.nvm_model.specs.Page.Page.{Absent, Present}
use Rattle.nvm_model.proofs.NumberedLemmas.{slice_get-map_from}
use Rattle.nvm_model.proofs.PageLemmas.{cell_of-persist, cell_of-put}
use Rattle.page_lines.proofs.PieceLemmas.{word_stored-out}
use Rattle.pm_volume.specs.Left.{HasWords, IsKeptLine}

-- lists with the same items
pub same_gets : {A : Type 0} (xs ys : List A) → ((k : ℕ) → slice_get xs k ≡ slice_get ys k) → xs ≡ ys
same_gets [] [] h = refl
same_gets [] (y ∷ ys) h = let none : None ≡ Some y = h 0 in cc
same_gets (x ∷ xs) [] h = let none : Some x ≡ None = h 0 in cc
same_gets (x ∷ xs) (y ∷ ys) h =
    let first : x ≡ y = same_Some x y (h 0) in
    let rest : xs ≡ ys = same_gets xs ys (λ k. h (suc k)) in
    cc

-- lines of a device have eight words
pub has_words : (place : ℕ → ℕ) (m : Medium) (pages : List Page) → PagesStand place m pages → (n : ℕ) → HasWords (cell_of pages n)
has_words place m pages stand n = by_cell (cell_of pages n) refl
  where
    by_cell : (o : Option Cell) → cell_of pages n ≡ o → HasWords o
    by_cell None is = tt
    by_cell (Some Bad) is = tt
    by_cell (Some (Kept weak words)) is = (stand.lines n (Kept weak words) is).2

-- a line of zeros, or as it was
pub fill-kept : (start len : ℕ) (pages : List Page) (n : ℕ) → IsKeptLine (cell_of pages n) (cell_of (fill start len pages) n)
unfolding fill
fill-kept start len pages n =
    subst (IsKeptLine (in_page (slice_get pages (n / 64)))) (sym (ap in_page (slice_get-map_from (fill_page start len) 0 pages (n / 64)))) (by_page (slice_get pages (n / 64)))
  where
    in_page : Option Page → Option Cell
    in_page o = option_and_then (λ page. cell_in page (n % 64)) o

    zeros : slice_get (replicate 64 zero_cell) (n % 64) ≡ Some zero_cell
    zeros =
        slice_get-get_or (replicate 64 zero_cell) (n % 64) zero_cell (omega (arith, length-replicate 64 zero_cell))
        ∙ ap Some (get_or-replicate 64 (n % 64) zero_cell zero_cell (omega arith))

    by_test : (t : Bool) → IsKeptLine None (cell_in (cond t (Present (replicate 64 zero_cell)) Absent) (n % 64))
    by_test true = inr (refl, zeros)
    by_test false = inl refl

    by_page : (o : Option Page) → IsKeptLine (in_page o) (in_page (option_map (fill_page start len (0 + n / 64)) o))
    by_page None = inl refl
    by_page (Some (Present cells)) = inl refl
    by_page (Some Absent) = by_test (touches_page start len (0 + n / 64))

words-kept : (old new : Option Cell) → IsKeptLine old new → HasWords old → HasWords new
words-kept old new (inl same) has = subst HasWords (sym same) has
words-kept old new (inr filled) has = subst HasWords (sym filled.1) refl

-- bytes that don't touch a line
apart : (at len n w : ℕ) → w < 8 → touches at len n ≡ false → (8 * (8 * n + w) + 8 ≤ at) ⊎ (at + len ≤ 8 * (8 * n + w))
apart at len n w small out =
    elim (cases_lt at (64 * n + 64)) as (λ _. (8 * (8 * n + w) + 8 ≤ at) ⊎ (at + len ≤ 8 * (8 * n + w))) [
      | inl low ↦
          elim (cases_lt (64 * n) (at + len)) as (λ _. (8 * (8 * n + w) + 8 ≤ at) ⊎ (at + len ≤ 8 * (8 * n + w))) [
            | inl high ↦ absurd (false≢true (sym out ∙ and_from _ _ (lt-ltb at (64 * n + 64) low) (lt-ltb (64 * n) (at + len) high)))
            | inr past ↦ inr (omega (arith, past))
          ]
      | inr before ↦ inl (omega (arith, before, small))
    ]

uncovered : (at len n : ℕ) → 1 ≤ len → touches at len n ≡ false → covers at len n ≡ true → ⊥
uncovered at len n some out is = grind (arith, nat_tests)

words-apart : (at n : ℕ) (bytes : List ℕ) (words : List (List ℕ)) → length words ≡ 8 → touches at (length bytes) n ≡ false
    → map_from (word_stored at bytes) (8 * n) words ≡ words
words-apart at n bytes words size out = same_gets _ _ (λ k. slice_get-map_from (word_stored at bytes) (8 * n) words k ∙ by_word k (slice_get words k) refl)
  where
    by_word : (k : ℕ) (o : Option (List ℕ)) → slice_get words k ≡ o → option_map (word_stored at bytes (8 * n + k)) o ≡ o
    by_word k None is = refl
    by_word k (Some h) is =
        ap Some (word_stored-out at (8 * n + k) bytes h (apart at (length bytes) n k (omega (arith, slice_get_within words k h is, size)) out))

module _ (at n : ℕ) (bytes : List ℕ) (some : 1 ≤ length bytes) (out : touches at (length bytes) n ≡ false) where
  put_cell-apart : (cell : Cell) → HasWords (Some cell) → put_cell at bytes n cell ≡ cell
  put_cell-apart (Kept weak words) has = ap (Kept weak) (words-apart at n bytes words has out)
  put_cell-apart Bad has = by_test (covers at (length bytes) n) refl
    where
      by_test : (t : Bool) → covers at (length bytes) n ≡ t → cond t (Kept false (map_from (word_stored at bytes) (8 * n) (replicate 8 (0 ∷ [])))) Bad ≡ Bad
      by_test true is = absurd (uncovered at (length bytes) n some out is)
      by_test false is = refl

  may_put-apart : (old new : Cell) → HasWords (Some old) → MayPut at bytes n old new → new ≡ old
  may_put-apart Bad new has (inl same) = same
  may_put-apart Bad new has (inr covered) = absurd (uncovered at (length bytes) n some out covered.0)
  may_put-apart (Kept weak words) Bad has may = absurd may
  may_put-apart (Kept weak words) (Kept mark mixed) has may =
      let each : (k : ℕ) → slice_get mixed k ≡ slice_get words k =
      λ k. elim (may.1.each k) as (λ _. slice_get mixed k ≡ slice_get words k) [
        | inl was ↦ was
        | inr put_there ↦ put_there ∙ ap (λ (ws : List (List ℕ)). slice_get ws k) (words-apart at n bytes words has out)
      ] in
      let same : mixed ≡ words = same_gets mixed words each in
      let mark_same : mark ≡ weak = may.0 in
      cc

-- what became of a line that was to stay
became-same : (R : Cell → Cell → Type 0) (old new : Option Cell) → ((a b : Cell) → old ≡ Some a → R a b → b ≡ a) → Became R old new → new ≡ old
became-same R None None stays is = refl
became-same R None (Some b) stays is = absurd is
became-same R (Some a) None stays is = absurd is
became-same R (Some a) (Some b) stays is = ap Some (stays a b refl is)

kept-then : (a b c : Option Cell) → IsKeptLine a b → c ≡ b → IsKeptLine a c
kept-then a b c kept same = subst (IsKeptLine a) (sym same) kept

-- A store keeps the lines that it doesn't touch, however it ends.
pub put-keeps : (at : ℕ) (bytes : List ℕ) (pages : List Page) (n : ℕ) → 1 ≤ length bytes → touches at (length bytes) n ≡ false → HasWords (cell_of pages n)
    → IsKeptLine (cell_of pages n) (cell_of (put at bytes (fill at (length bytes) pages)) n)
put-keeps at bytes pages n some out has =
    let filled = fill-kept at (length bytes) pages n in
    kept-then _ _ _ filled
    (cell_of-put at bytes (fill at (length bytes) pages) n ∙ by_cell (cell_of (fill at (length bytes) pages) n) (words-kept _ _ filled has))
  where
    by_cell : (o : Option Cell) → HasWords o → option_map (put_cell at bytes n) o ≡ o
    by_cell None has = refl
    by_cell (Some cell) has = ap Some (put_cell-apart at n bytes some out cell has)

pub store-keeps : (at : ℕ) (bytes : List ℕ) (old new : List Page) (n : ℕ) → 1 ≤ length bytes → touches at (length bytes) n ≡ false → HasWords (cell_of old n)
    → MayStore at bytes old new → IsKeptLine (cell_of old n) (cell_of new n)
store-keeps at bytes old new n some out has (inl same) = inl (ap (λ (ps : List Page). cell_of ps n) same)
store-keeps at bytes old new n some out has (inr put_there) =
    let filled = fill-kept at (length bytes) old n in
    kept-then _ _ _ filled
    (became-same (MayPut at bytes n) (cell_of (fill at (length bytes) old) n) (cell_of new n)
    (λ a b is may. may_put-apart at n bytes some out a b (subst HasWords is (words-kept _ _ filled has)) may)
    (put_there.each n))

-- And so does a sync.
persist_cell-apart : (start len n : ℕ) (cell : Cell) → touches start len n ≡ false → persist_cell start len n cell ≡ cell
persist_cell-apart start len n cell out = ap (λ t. cond t (flush_cell cell) cell) out

pub persist-keeps : (start len : ℕ) (pages : List Page) (n : ℕ) → touches start len n ≡ false → cell_of (persist start len pages) n ≡ cell_of pages n
persist-keeps start len pages n out = cell_of-persist start len pages n ∙ by_cell (cell_of pages n)
  where
    by_cell : (o : Option Cell) → option_map (persist_cell start len n) o ≡ o
    by_cell None = refl
    by_cell (Some cell) = ap Some (persist_cell-apart start len n cell out)

pub sync-keeps : (start len : ℕ) (old new : List Page) (n : ℕ) → touches start len n ≡ false → MaySync start len old new → cell_of new n ≡ cell_of old n
sync-keeps start len old new n out may = became-same (MayPersist start len n) (cell_of old n) (cell_of new n) stays (may.each n)
  where
    stays : (a b : Cell) → cell_of old n ≡ Some a → MayPersist start len n a b → b ≡ a
    stays a b is (inl same) = same
    stays a b is (inr flushed) = flushed ∙ persist_cell-apart start len n a out
