-- Rows of the words and blocks of a read, by what is looked at.
use Rattle.std.proofs.Common.{◌≡◌, ℕ, zero, suc, ◌+◌, ◌-◌, ◌*◌, ◌/◌, ◌%◌, ◌<◌, ◌≤◌, true, Option, List, [], ◌∷◌, ◌++◌, codes, decimal, drop, get_or, length, map, take, Result, Ok, Err, refl, sym, ap, subst, ◌∙◌, append_assoc, arith}
use Rattle.std.specs.List.{list_all, range_with_len}
use Rattle.std.specs.Result.{OnOk}
use Rattle.std.proofs.lemmas.List.{get_or-drop, get_or_append_left, length-append, length-drop, map-append, take_more}
use Rattle.std.proofs.Math.Seq.{drop-append_seam}
use Rattle.std.proofs.lemmas.List.FromFn.{get_or-range_with_len, length-range_with_len, map-range_with_len_more}
use Rattle.nvm_base.specs.Stock.{Stock}
use Rattle.nvm_model.specs.Cell.{Cell}
use Rattle.block_sights.specs.Sights.{Sight}
use Rattle.cut_places.specs.SightsSeen.declared.line_seen.LineSeen.{LineSeen}
use Rattle.cut_places.specs.SightsSeen.declared.block_seen.BlockSeen.{BlockSeen}
use Rattle.cut_places.specs.SightsSeen.Units.{block_numbers, line_numbers}
use Rattle.value_tables.specs.declared.shown.Shown.{Shown}
use Rattle.value_tables.specs.declared.shown.Shown.TheVariants.{Block, FileWord, Word}
use Rattle.cut_places.specs.SeesFiles.{is_held}
use Rattle.cut_places.specs.FilesState.{FilesState}
use Rattle.value_tables.specs.Left.{Found}
use Rattle.value_tables.specs.Looking.{lines_spanned}
use Rattle.value_tables.specs.Rows.{row_text, sides_text, sights_text, word_text}
use Rattle.value_tables.specs.Sides.{AreBlocksLeft, AreFilesLeft, AreLeft, HasRun, block_at, line_at, new_side, side_at, texts}
use Rattle.value_tables.specs.Values.{block_values}
use Rattle.value_tables.proofs.RangeLemmas.{range_each}

-- a place of a run is one of the list, and has its number
module _ (numbers : List ℕ) (at first count : ℕ) (run : HasRun numbers at (range_with_len first count)) where
  rest_length : length numbers - at ≡ count + length run.others
  rest_length =
      sym (length-drop at numbers) ∙ ap length run.is ∙ length-append (range_with_len first count) run.others
      ∙ ap (λ n. n + length run.others) (length-range_with_len first count)

  pub run_within : (j : ℕ) → j < count → at + j < length numbers
  run_within j lt = let rest = rest_length in omega (arith, lt, rest)

  pub run_fits : 0 < count → at + count ≤ length numbers
  run_fits some = let rest = rest_length in omega (arith, some, rest)

  pub run_number : (j : ℕ) → j < count → get_or numbers (at + j) 0 ≡ first + j
  run_number j lt =
      sym (get_or-drop at numbers j 0) ∙ ap (λ l. get_or l j 0) run.is
      ∙ get_or_append_left (range_with_len first count) run.others 0 j (subst (λ n. j < n) (sym (length-range_with_len first count)) lt) ∙ get_or-range_with_len first count j 0 lt

-- what may be left at a place
pub lines_at : (f : ℕ → List Cell) (now new : List LineSeen) (i n : ℕ) → AreLeft f now new → i < length now → get_or (line_numbers now) i 0 ≡ n → line_at now i ++ line_at new i ≡ f n
lines_at f [] new i n are lt is = absurd (omega (arith, lt))
lines_at f (s ∷ now) [] zero n are lt is = sym are.0 ∙ ap f is
lines_at f (s ∷ now) [] (suc i) n are lt is = lines_at f now [] i n are.1 (omega (arith, lt)) is
lines_at f (s ∷ now) (t ∷ new) zero n are lt is = sym are.0 ∙ ap f is
lines_at f (s ∷ now) (t ∷ new) (suc i) n are lt is = lines_at f now new i n are.1 (omega (arith, lt)) is

pub blocks_at : (f : ℕ → List Sight) (now new : List BlockSeen) (i n : ℕ) → AreBlocksLeft f now new → i < length now → get_or (block_numbers now) i 0 ≡ n → block_at now i ++ block_at new i ≡ f n
blocks_at f [] new i n are lt is = absurd (omega (arith, lt))
blocks_at f (s ∷ now) [] zero n are lt is = sym are.0 ∙ ap f is
blocks_at f (s ∷ now) [] (suc i) n are lt is = blocks_at f now [] i n are.1 (omega (arith, lt)) is
blocks_at f (s ∷ now) (t ∷ new) zero n are lt is = sym are.0 ∙ ap f is
blocks_at f (s ∷ now) (t ∷ new) (suc i) n are lt is = blocks_at f now new i n are.1 (omega (arith, lt)) is

pub line_count : (lines : List LineSeen) → length (line_numbers lines) ≡ length lines
line_count [] = refl
line_count (s ∷ lines) = ap suc (line_count lines)

pub block_count : (blocks : List BlockSeen) → length (block_numbers blocks) ≡ length blocks
block_count [] = refl
block_count (s ∷ blocks) = ap suc (block_count blocks)

-- the row of a word, and that of a block
pub row_of_word : (may : Found) (now new : List LineSeen) (k p at first count j : ℕ) → HasRun (line_numbers now) at (range_with_len first count)
    → AreLeft may.lines now new → j < count → first + j ≡ p / 8
    → decimal k ++ (codes " volume " ++ (decimal (8 * p) ++ (word_text (p % 8) (line_at now (at + j) ++ line_at new (at + j)) ++ 10 ∷ []))) ≡ row_text may k (Word p)
row_of_word may now new k p at first count j run are lt is =
    ap (λ cells. decimal k ++ (codes " volume " ++ (decimal (8 * p) ++ (word_text (p % 8) cells ++ 10 ∷ []))))
    (lines_at may.lines now new (at + j) (p / 8) are (subst (λ n. at + j < n) (line_count now) (run_within (line_numbers now) at first count run j lt))
    (run_number (line_numbers now) at first count run j lt ∙ is))

pub row_of_block : (may : Found) (now new : List BlockSeen) (k b at first count j : ℕ) → HasRun (block_numbers now) at (range_with_len first count)
    → AreBlocksLeft may.blocks now new → j < count → first + j ≡ b
    → decimal k ++ (codes " block " ++ (decimal b ++ (sights_text (block_values (block_at now (at + j) ++ block_at new (at + j))) ++ 10 ∷ []))) ≡ row_text may k (Block b)
row_of_block may now new k b at first count j run are lt is =
    ap (λ sights. decimal k ++ (codes " block " ++ (decimal b ++ (sights_text (block_values sights) ++ 10 ∷ []))))
    (blocks_at may.blocks now new (at + j) b are (subst (λ n. at + j < n) (block_count now) (run_within (block_numbers now) at first count run j lt))
    (run_number (block_numbers now) at first count run j lt ∙ is))

-- the row of a word of a file, whose line is held
word_held : (numbers : List ℕ) (start len p : ℕ) → list_all (is_held numbers) (lines_spanned start len) ≡ true → start / 8 ≤ p → p < (start + len - 1) / 8 + 1 → is_held numbers (p / 8) ≡ true
word_held numbers start len p held from to =
    range_each (is_held numbers) (start / 64) ((start + len - 1) / 64 + 1 - start / 64) held (p / 8) (omega (arith, from)) (omega (arith, from, to))

pub row_of_file_word : (may : Found) (now : FilesState) (new : Option FilesState) (name : List ℕ) (k p start len : ℕ) → AreFilesLeft may.files now new
    → list_all (is_held now.numbers) (lines_spanned start len) ≡ true → start / 8 ≤ p → p < (start + len - 1) / 8 + 1
    → decimal k ++ (codes " file " ++ (name ++ (32 ∷ (decimal (8 * p) ++ (sides_text (p % 8) (side_at now name p ++ new_side new name p) ++ 10 ∷ []))))) ≡ row_text may k (FileWord name p)
row_of_file_word may now new name k p start len are held from to =
    ap (λ sides. decimal k ++ (codes " file " ++ (name ++ (32 ∷ (decimal (8 * p) ++ (sides_text (p % 8) sides ++ 10 ∷ []))))))
    (sym (are name p (word_held now.numbers start len p held from to)))

-- one row more
pub texts_more : (old new : List (Stock ℕ)) (row : Stock ℕ) (text : List ℕ) → new ≡ old ++ row ∷ [] → row.items ≡ text → texts new ≡ texts old ++ text ∷ []
texts_more old new row text more is = ap texts more ∙ map-append (λ (r : Stock ℕ). r.items) old (row ∷ []) ∙ ap (λ t. texts old ++ t ∷ []) is

pub rows_more : (f : Shown → List ℕ) (shown : ℕ → Shown) (first p : ℕ) (before : List (List ℕ)) (old new : List (Stock ℕ)) (row : Stock ℕ) → first ≤ p
    → texts old ≡ before ++ map f (map shown (range_with_len first (p - first))) → new ≡ old ++ row ∷ [] → row.items ≡ f (shown p)
    → texts new ≡ before ++ map f (map shown (range_with_len first (p + 1 - first)))
rows_more f shown first p before old new row le was more is =
    let place : first + (p - first) ≡ p = omega (arith, le) in
    let count : p - first + 1 ≡ p + 1 - first = omega (arith, le) in
    texts_more old new row (f (shown p)) more is ∙ ap (λ l. l ++ f (shown p) ∷ []) was
    ∙ append_assoc before (map f (map shown (range_with_len first (p - first)))) (f (shown p) ∷ [])
    ∙ ap (λ l. before ++ l) (sym (map-append f (map shown (range_with_len first (p - first))) (shown p ∷ [])))
    ∙ ap (λ l. before ++ map f l) (sym (map-range_with_len_more shown first (p - first) p place))
    ∙ ap (λ n. before ++ map f (map shown (range_with_len first n))) count

-- behind a run come the others
drop_none : (n : ℕ) (xs : List ℕ) → xs ≡ [] → drop n xs ≡ []
drop_none zero xs none = none
drop_none (suc n) [] none = refl
drop_none (suc n) (x ∷ xs) none = cc none

drop_both : (a b : ℕ) (xs : List ℕ) → drop (a + b) xs ≡ drop b (drop a xs)
drop_both zero b xs = let same : 0 + b ≡ b = omega arith in ap (λ n. drop n xs) same
drop_both (suc a) b [] = drop_none (suc a + b) [] refl ∙ sym (drop_none b [] refl)
drop_both (suc a) b (x ∷ xs) = let next : suc a + b ≡ suc (a + b) = omega arith in ap (λ n. drop n (x ∷ xs)) next ∙ drop_both a b xs

pub run_rest : (numbers : List ℕ) (at : ℕ) (run : List ℕ) (has : HasRun numbers at run) → drop (at + length run) numbers ≡ has.others
run_rest numbers at run has = drop_both at (length run) numbers ∙ ap (drop (length run)) has.is ∙ drop-append_seam run has.others

-- an item more of a copy
pub copies_more : {A : Type 0} (xs old new : List A) (i : ℕ) (item seen : A) → old ≡ take i xs → new ≡ old ++ item ∷ [] → item ≡ seen → seen ≡ get_or xs i seen → i < length xs
    → new ≡ take (i + 1) xs
copies_more xs old new i item seen was more same is lt =
    more ∙ ap (λ l. l ++ item ∷ []) was ∙ ap (λ x. take i xs ++ x ∷ []) (same ∙ is) ∙ sym (take_more xs i seen lt)

-- of what was done
pub ok_more : {A E : Type 0} {P Q : Type 0} (result : Result A E) → (P → Q) → OnOk result P → OnOk result Q
ok_more (Ok x) to is = to is
ok_more (Err e) to is = tt
