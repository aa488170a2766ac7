-- A word could be otherwise than it is kept exactly where its row in a table has more than one value.
use Rattle.std.proofs.Common.{◌≡◌, ◌⊎◌, inl, inr, ℕ, ◌+◌, ◌*◌, ◌<◌, ◌≤◌, ◌==◌, ◌||◌, nat_lt, not, Bool, true, false, cond, Some, List, [], ◌∷◌, ◌++◌, length, slice_index, slice_index_or, refl, sym, ap, subst, ◌∙◌, arith, eq-eqb}
use Rattle.std.specs.List.{list_any}
use Rattle.std.proofs.lemmas.Bool.{and_parts, eqb-true, lt-ltb}
use Rattle.nvm_model.specs.Cell.{Cell}
use Rattle.nvm_model.specs.Cell.Cell.{Bad, Kept}
use Rattle.nvm_model.specs.Numbered.{list_from}
use Rattle.nvm_model.specs.Page.{is_bad_cell}
use Rattle.cut_places.specs.Outcomes.Pages.{PageRead, all_agree, all_allow_good, words_fit}
use Rattle.cut_places.specs.AskedReads.Fitting.{cell_fits}
use Rattle.cut_places.proofs.SightsSeen.PassLemmas.{EachUnit}
use Rattle.value_tables.specs.Left.{FileSide}
use Rattle.value_tables.specs.Left.FileSide.{NoFile, OfLine, PastEnd}
use Rattle.value_tables.specs.Listed.{HasWords}
use Rattle.value_tables.specs.Values.{cells_of, history_of, is_missing, is_past, may_be_bad, values_with, with_all, word_values}
use Rattle.value_tables.proofs.HistoryLemmas.{word_has}
use Rattle.value_tables.proofs.OnceLemmas.{any_of, any_value}
use Rattle.witnesses.specs.declared.line_kept.LineLeft.{LineLeft}
use Rattle.witnesses.specs.declared.line_kept.LineLeft.TheVariants as left
use Rattle.witnesses.specs.Lines.{first_agreed, left_of, may_differ}
use Rattle.witnesses.proofs.ListLemmas.{IsAmong, any_in, found, range_each}
use Rattle.witnesses.proofs.WordLemmas.{item_from}
use Rattle.explorer.specs.Choosing.{one_if, side_count}

-- of a list of values each of which stands there once: it has the value v alone, or none
abbrev IsOnly : ℕ → List ℕ → Type 0
IsOnly v values = (values ≡ []) ⊎ (values ≡ v ∷ [])

abbrev other : ℕ → ℕ → Bool
other v u = not (u == v)

only_same : (v x : ℕ) → other v x ≡ false → (x == v) ≡ true
only_same v x is = by_test (x == v) is
  where
    by_test : (b : Bool) → not b ≡ false → b ≡ true
    by_test true is = refl
    by_test false is = cc is

or_none : (a b : Bool) → (a || b) ≡ false → (a ≡ false) × (b ≡ false)
or_none true b is = cc is
or_none false b is = (refl, is)

module _ (v : ℕ) where
  only_more : (xs values : List ℕ) → IsOnly v values → list_any (other v) xs ≡ false → IsOnly v (with_all (λ a b. a == b) values xs)
  only_more [] values only none = only
  only_more (x ∷ xs) values only none =
      let parts = or_none (other v x) (list_any (other v) xs) none in
      let same : (x == v) ≡ true = only_same v x parts.0 in
      only_more xs (cond (list_any (λ b. x == b) values) values (values ++ x ∷ [])) (by_found only same) parts.1
    where
      at_none : (b : Bool) → (x == v) ≡ true → b ≡ false → IsOnly v (cond b [] (x ∷ []))
      at_none true same is = cc is
      at_none false same is = inr (ap (λ u. u ∷ []) (eqb-true x v same))

      at_one : (b : Bool) → b ≡ true → IsOnly v (cond b (v ∷ []) (v ∷ x ∷ []))
      at_one true is = inr refl
      at_one false is = cc is

      by_found : IsOnly v values → (x == v) ≡ true → IsOnly v (cond (list_any (λ b. x == b) values) values (values ++ x ∷ []))
      by_found (inl none) same = subst (λ vs. IsOnly v (cond (list_any (λ b. x == b) vs) vs (vs ++ x ∷ []))) (sym none) (at_none false same refl)
      by_found (inr one) same = subst (λ vs. IsOnly v (cond (list_any (λ b. x == b) vs) vs (vs ++ x ∷ []))) (sym one) (at_one ((x == v) || false) (ap (λ b. b || false) same))

  only_of : (w : ℕ) (cells : List Cell) (values : List ℕ) → IsOnly v values → list_any (λ cell. list_any (other v) (history_of w cell)) cells ≡ false → IsOnly v (values_with w values cells)
  only_of w [] values only none = only
  only_of w (cell ∷ cells) values only none =
      let parts = or_none (list_any (other v) (history_of w cell)) (list_any (λ c. list_any (other v) (history_of w c)) cells) none in
      only_of w cells (with_all (λ a b. a == b) values (history_of w cell)) (only_more (history_of w cell) values only parts.0) parts.1

  few : (values : List ℕ) → IsOnly v values → nat_lt 1 (length values) ≡ false
  few values (inl none) = ap (λ vs. nat_lt 1 (length vs)) none
  few values (inr one) = ap (λ vs. nat_lt 1 (length vs)) one

  many : (values : List ℕ) → list_any (λ u. u == v) values ≡ true → list_any (other v) values ≡ true → nat_lt 1 (length values) ≡ true
  many [] has more = cc has
  many (x ∷ []) has more = by_test (x == v) has more
    where
      by_test : (b : Bool) → (b || false) ≡ true → (not b || false) ≡ true → nat_lt 1 1 ≡ true
      by_test true has more = cc more
      by_test false has more = cc has
  many (x ∷ y ∷ ys) has more = lt-ltb 1 (length (x ∷ y ∷ ys)) (omega arith)

  -- another value is kept of one of these lines where there are several
  values_choice : (w : ℕ) (cells : List Cell) → list_any (λ u. u == v) (word_values w cells) ≡ true
      → list_any (λ cell. list_any (other v) (history_of w cell)) cells ≡ nat_lt 1 (length (word_values w cells))
  values_choice w cells has = by_test (list_any (λ cell. list_any (other v) (history_of w cell)) cells) refl
    where
      by_test : (b : Bool) → list_any (λ cell. list_any (other v) (history_of w cell)) cells ≡ b → b ≡ nat_lt 1 (length (word_values w cells))
      by_test true is = sym (many (word_values w cells) has (any_value (other v) w [] cells ∙ is))
      by_test false is = sym (few (word_values w cells) (only_of w cells [] (inl refl) is))

-- a word may be otherwise where it is sought so
abbrev pub side_differs : ℕ → LineLeft → FileSide → Bool
side_differs w kept NoFile = true
side_differs w kept PastEnd = true
side_differs w kept (OfLine cell) = may_differ cell w kept

abbrev is_good : Cell → Bool
is_good cell = not (is_bad_cell (Some cell))

past_first : (m p d : Bool) → true ≡ (m || (true || d))
past_first true p d = refl
past_first false p d = refl

-- of each side by what it is
module _ (w : ℕ) (kept : LineLeft) where
  by_kinds : (sides : List FileSide)
      → list_any (side_differs w kept) sides ≡ (list_any is_missing sides || (list_any is_past sides || list_any (λ cell. may_differ cell w kept) (cells_of sides)))
  by_kinds [] = refl
  by_kinds (NoFile ∷ sides) = refl
  by_kinds (PastEnd ∷ sides) = past_first (list_any is_missing sides) (list_any is_past sides) (list_any (λ cell. may_differ cell w kept) (cells_of sides))
  by_kinds (OfLine cell ∷ sides) = ap (λ b. may_differ cell w kept || b) (by_kinds sides)
      ∙ last (may_differ cell w kept) (list_any is_missing sides) (list_any is_past sides) (list_any (λ c. may_differ c w kept) (cells_of sides))
    where
      last : (a m p d : Bool) → (a || (m || (p || d))) ≡ (m || (p || (a || d)))
      last true true p d = refl
      last true false true d = refl
      last true false false d = refl
      last false m p d = refl

-- of a line whose words are kept
module _ (words : List ℕ) (w : ℕ) where
  abbrev kept : LineLeft
  kept = left.Words words

  abbrev v : ℕ
  v = slice_index words w

  by_badness : (cells : List Cell) → list_any (λ cell. may_differ cell w kept) cells ≡ (may_be_bad cells || list_any (λ cell. list_any (other v) (history_of w cell)) cells)
  by_badness [] = refl
  by_badness (Bad ∷ cells) = refl
  by_badness (Kept weak histories ∷ cells) =
      ap (λ b. list_any (other v) (slice_index_or histories w []) || b) (by_badness cells)
      ∙ last (list_any (other v) (slice_index_or histories w [])) (may_be_bad cells) (list_any (λ cell. list_any (other v) (history_of w cell)) cells)
    where
      last : (a b c : Bool) → (a || (b || c)) ≡ (b || (a || c))
      last true true c = refl
      last true false c = refl
      last false b c = refl

  some_there : (values : List ℕ) → list_any (λ u. u == v) values ≡ true → 1 ≤ length values
  some_there [] has = cc has
  some_there (x ∷ values) has = omega arith

  more : (m p b : Bool) (d : Bool) (count : ℕ) → 1 ≤ count → d ≡ nat_lt 1 count → (m || (p || (b || d))) ≡ nat_lt 1 (one_if m + (one_if p + (one_if b + count)))
  more true p b d count some is = sym (lt-ltb 1 (1 + (one_if p + (one_if b + count))) (omega (arith, some)))
  more false true b d count some is = sym (lt-ltb 1 (0 + (1 + (one_if b + count))) (omega (arith, some)))
  more false false true d count some is = sym (lt-ltb 1 (0 + (0 + (1 + count))) (omega (arith, some)))
  more false false false d count some is = let same : 0 + (0 + (0 + count)) ≡ count = omega arith in is ∙ ap (nat_lt 1) (sym same)

  good_choice : (sides : List FileSide) → list_any (λ u. u == v) (word_values w (cells_of sides)) ≡ true → list_any (side_differs w kept) sides ≡ nat_lt 1 (side_count w sides)
  good_choice sides has =
      by_kinds w kept sides
      ∙ ap (λ b. list_any is_missing sides || (list_any is_past sides || b)) (by_badness (cells_of sides))
      ∙ more (list_any is_missing sides) (list_any is_past sides) (may_be_bad (cells_of sides)) (list_any (λ cell. list_any (other v) (history_of w cell)) (cells_of sides))
      (length (word_values w (cells_of sides))) (some_there (word_values w (cells_of sides)) has) (values_choice v w (cells_of sides) has)

-- and of one that is bad
module _ (w : ℕ) (word : w < 8) where
  good_differ : (cells : List Cell) → list_any (λ cell. may_differ cell w left.Bad) cells ≡ list_any is_good cells
  good_differ [] = refl
  good_differ (Bad ∷ cells) = good_differ cells
  good_differ (Kept weak words ∷ cells) = refl

  some_value : (values : List ℕ) → 1 ≤ length values → list_any (λ u. true) values ≡ true
  some_value [] some = absurd (omega (arith, some))
  some_value (v ∷ values) some = refl

  has_value : (cell : Cell) → HasWords cell → is_good cell ≡ list_any (λ u. true) (history_of w cell)
  has_value Bad have = refl
  has_value (Kept weak words) have = sym (some_value (slice_index_or words w []) (word_has words w (subst (λ m. w < m) (sym have.0) word) have.1))

  more_than_one : (values : List ℕ) → list_any (λ u. true) values ≡ nat_lt 1 (1 + length values)
  more_than_one [] = refl
  more_than_one (v ∷ values) = sym (lt-ltb 1 (1 + length (v ∷ values)) (omega arith))

  beside : (m p d : Bool) (count : ℕ) → d ≡ nat_lt 1 (1 + count) → (m || (p || d)) ≡ nat_lt 1 (one_if m + (one_if p + (1 + count)))
  beside true p d count is = sym (lt-ltb 1 (1 + (one_if p + (1 + count))) (omega arith))
  beside false true d count is = sym (lt-ltb 1 (0 + (1 + (1 + count))) (omega arith))
  beside false false d count is = let same : 0 + (0 + (1 + count)) ≡ 1 + count = omega arith in is ∙ ap (nat_lt 1) (sym same)

  bad_choice : (sides : List FileSide) → EachUnit HasWords (cells_of sides) → may_be_bad (cells_of sides) ≡ true → list_any (side_differs w left.Bad) sides ≡ nat_lt 1 (side_count w sides)
  bad_choice sides have bad =
      let cells = cells_of sides in
      by_kinds w left.Bad sides
      ∙ beside (list_any is_missing sides) (list_any is_past sides) (list_any (λ cell. may_differ cell w left.Bad) cells) (length (word_values w cells))
      (good_differ cells ∙ any_of HasWords is_good (λ cell. list_any (λ u. true) (history_of w cell)) cells have has_value ∙ sym (any_value (λ u. true) w [] cells)
      ∙ more_than_one (word_values w cells))
      ∙ ap (λ b. nat_lt 1 (one_if (list_any is_missing sides) + (one_if (list_any is_past sides) + (one_if b + length (word_values w cells))))) (sym bad)

-- one of these passes
any_there : {A : Type 0} (f : A → Bool) (x : A) (xs : List A) → IsAmong x xs → f x ≡ true → list_any f xs ≡ true
any_there f x [] is passes = absurd is
any_there f x (y ∷ ys) (inl same) passes = ap (λ b. b || list_any f ys) (sym (ap f same) ∙ passes)
any_there f x (y ∷ ys) (inr later) passes = or_last (f y) (list_any f ys) (any_there f x ys later passes)
  where
    or_last : (a b : Bool) → b ≡ true → (a || b) ≡ true
    or_last true b is = refl
    or_last false b is = is

-- what is kept of one of the lines that may have the word, where all reads fit the line
pub kept_choice : (reads : List PageRead) (n w : ℕ) → w < 8 → (sides : List FileSide) (cell : Cell) → IsAmong cell (cells_of sides) → cell_fits reads n cell ≡ true → EachUnit HasWords (cells_of sides)
    → list_any (side_differs w (left_of reads n cell)) sides ≡ nat_lt 1 (side_count w sides)
kept_choice reads n w word sides Bad among fits have = bad_choice w word sides have (any_there (λ cell. is_bad_cell (Some cell)) Bad (cells_of sides) among refl)
kept_choice reads n w word sides (Kept weak words) among fits have =
    let agreed = λ (k : ℕ). first_agreed reads (8 * n + k) (slice_index_or words k []) in
    let same : 0 + w ≡ w = omega arith in
    let value : slice_index (list_from agreed 0 8) w ≡ first_agreed reads (8 * n + w) (slice_index_or words w []) = item_from agreed 0 8 w word ∙ ap agreed same in
    let parts = and_parts (all_allow_good reads n) (words_fit reads n words) fits in
    let any = range_each (λ k. list_any (all_agree reads (8 * n + k)) (slice_index_or words k [])) 0 8 parts.1 w (omega arith) (omega (arith, word)) in
    let there = found (all_agree reads (8 * n + w)) (slice_index_or words w []) any in
    let is_there : list_any (λ u. u == slice_index (list_from agreed 0 8) w) (slice_index_or words w []) ≡ true =
    any_in (λ u. u == slice_index (list_from agreed 0 8) w) (first_agreed reads (8 * n + w) (slice_index_or words w [])) (slice_index_or words w []) there.0
    (eq-eqb (first_agreed reads (8 * n + w) (slice_index_or words w [])) (slice_index (list_from agreed 0 8) w) (sym value)) in
    good_choice (list_from agreed 0 8) w sides
    (any_value (λ u. u == slice_index (list_from agreed 0 8) w) w [] (cells_of sides)
    ∙ any_there (λ cell. list_any (λ u. u == slice_index (list_from agreed 0 8) w) (history_of w cell)) (Kept weak words) (cells_of sides) among is_there)
