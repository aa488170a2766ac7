-- Single lines that a media error takes, that become weak, or that are cleared.
use Rattle.std.proofs.Common.{◌≡◌, ℕ, zero, suc, ◌+◌, ◌*◌, ◌/◌, ◌<◌, Bool, true, false, not, cond, Option, Some, None, option_map, List, [], ◌∷◌, length, replicate, slice_get, refl, sym, ap, subst, ◌∙◌, inl, inr, arith}
use Rattle.std.proofs.lemmas.Bool.{cases_eq, eq-eqb, ne_eqb, false≢true}
use Rattle.std.proofs.lemmas.Option.{slice_get_within}
use Rattle.line_device.specs.History.{WordWritesBack}
use Rattle.line_device.specs.Medium.{Medium, WritesBack, Weakens, with_at, renewed, poisoned, cleared}
use Rattle.line_device.proofs.HistoryLemmas.{word_write_back-trans}
use Rattle.line_device.proofs.WriteBackLemmas.{on_line-in, on_line-out}
use Rattle.nvm_model.specs.Numbered.{map_from}
use Rattle.nvm_model.specs.Cell.{Cell, weaken_cell, clear_cell, zero_cell, CellStands}
use Rattle.nvm_model.specs.Cell.Cell.{Bad, Kept}
use Rattle.nvm_model.specs.Page.{Page, cell_of, presence_of, at_line, change_line, map_lines, PagesStand}
use Rattle.nvm_model.specs.Page.Page.{Absent, Present}
use Rattle.nvm_model.proofs.NumberedLemmas.{slice_get-map_from, length-map_from}
use Rattle.nvm_model.proofs.PageLemmas.{cell_of-map, presence_of-lines}
use Rattle.nvm_model.proofs.StandLemmas.{word_write_back-strong, cell_stands-write_back}

-- the line that is changed, and the others
pub at_line-here : (f : Cell → Cell) (n : ℕ) (cell : Cell) → at_line f n n cell ≡ f cell
at_line-here f n cell = ap (λ b. cond b (f cell) cell) (eq-eqb n n refl)

pub at_line-beside : (f : Cell → Cell) (n i : ℕ) (cell : Cell) → (i ≡ n → ⊥) → at_line f n i cell ≡ cell
at_line-beside f n i cell out = ap (λ b. cond b (f cell) cell) (ne_eqb i n out)

pub cell_of-change : (f : Cell → Cell) (n : ℕ) (pages : List Page) (i : ℕ) → cell_of (change_line f n pages) i ≡ option_map (at_line f n i) (cell_of pages i)
unfolding change_line
cell_of-change f n pages i = cell_of-map (at_line f n) pages i

pub cell_of-changed : (f : Cell → Cell) (n : ℕ) (pages : List Page) → cell_of (change_line f n pages) n ≡ option_map f (cell_of pages n)
cell_of-changed f n pages = cell_of-change f n pages n ∙ by_cell (cell_of pages n)
  where
    by_cell : (o : Option Cell) → option_map (at_line f n n) o ≡ option_map f o
    by_cell None = refl
    by_cell (Some cell) = ap (λ c. Some c) (at_line-here f n cell)

pub cell_of-unchanged : (f : Cell → Cell) (n : ℕ) (pages : List Page) (i : ℕ) → (i ≡ n → ⊥) → cell_of (change_line f n pages) i ≡ cell_of pages i
cell_of-unchanged f n pages i out = cell_of-change f n pages i ∙ by_cell (cell_of pages i)
  where
    by_cell : (o : Option Cell) → option_map (at_line f n i) o ≡ o
    by_cell None = refl
    by_cell (Some cell) = ap (λ c. Some c) (at_line-beside f n i cell out)

-- which pages are there stays, and how many there are
pub presence_of-change : (f : Cell → Cell) (n : ℕ) (pages : List Page) → presence_of (change_line f n pages) ≡ presence_of pages
unfolding change_line
presence_of-change f n pages = presence_of-lines (at_line f n) 0 pages

pub length-change : (f : Cell → Cell) (n : ℕ) (pages : List Page) → length (change_line f n pages) ≡ length pages
unfolding change_line
length-change f n pages = length-map_from _ 0 pages

-- a line of a device that is bad now
pub cell_stands-poisoned : (m b : Medium) (n : ℕ) → WritesBack (poisoned m n) b → CellStands b n Bad
cell_stands-poisoned m b n x = x.bad n ∙ ap (λ t. cond t true (m.is_bad n)) (eq-eqb n n refl)

-- a line that is weak now, if it was healthy
pub cell_stands-weakened : (m b : Medium) (n : ℕ) (cell : Cell) → Weakens n m b → CellStands m n cell → CellStands b n (weaken_cell cell)
cell_stands-weakened m b n Bad x stands = x.write_back.bad n ∙ stands
cell_stands-weakened m b n (Kept weak words) x stands = (
  x.write_back.bad n ∙ stands.0,
  x.marks n ∙ ap (λ t. cond t (not (m.is_bad n)) (m.is_weak n)) (eq-eqb n n refl) ∙ ap not stands.0,
  stands.2,
  λ w history found.
      word_write_back-trans false _ _ _ (stands.3 w history found)
      (word_write_back-strong (m.is_weak ((8 * n + w) / 8)) _ _ (x.write_back.word_write_back (8 * n + w))),
)

get_replicate : (count w : ℕ) (history : List ℕ) → slice_get (replicate count (0 ∷ [])) w ≡ Some history → history ≡ 0 ∷ []
get_replicate zero w history found = cc
get_replicate (suc count) zero history found = cc
get_replicate (suc count) (suc w) history found = get_replicate count w history found

-- a line that was cleared, whatever it was
pub cell_stands-zeros : (m b : Medium) (n : ℕ) → WritesBack (cleared m n) b → CellStands b n zero_cell
cell_stands-zeros m b n x = (x.bad n ∙ here m.is_bad, x.weak n ∙ here m.is_weak, refl, each)
  where
    here : (f : ℕ → Bool) → with_at f n false n ≡ false
    here f = ap (λ t. cond t false (f n)) (eq-eqb n n refl)

    each : (w : ℕ) (history : List ℕ) → slice_get (replicate 8 (0 ∷ [])) w ≡ Some history → WordWritesBack false history (b.history (8 * n + w))
    each w history found =
        let small : w < 8 = slice_get_within (replicate 8 (0 ∷ [])) w history found in
        let on : (8 * n + w) / 8 ≡ n = omega (arith, small) in
        subst (λ h. WordWritesBack false h (b.history (8 * n + w))) (on_line-in n (λ _ _. 0 ∷ []) m.history (8 * n + w) on ∙ sym (get_replicate 8 w history found))
        (word_write_back-strong ((cleared m n).is_weak ((8 * n + w) / 8)) _ _ (x.word_write_back (8 * n + w)))

-- a bad one that was cleared
pub cell_stands-cleared : (m b : Medium) (n : ℕ) (cell : Cell) → m.is_bad n ≡ true → WritesBack (cleared m n) b → CellStands m n cell → CellStands b n (clear_cell cell)
cell_stands-cleared m b n Bad bad x stands = cell_stands-zeros m b n x
cell_stands-cleared m b n (Kept weak words) bad x stands = absurd (false≢true (sym stands.0 ∙ bad))

-- a clear changes no other line
pub clear_cell-healthy : (m : Medium) (n : ℕ) (cell : Cell) → m.is_bad n ≡ false → CellStands m n cell → clear_cell cell ≡ cell
clear_cell-healthy m n Bad good stands = absurd (false≢true (sym good ∙ stands))
clear_cell-healthy m n (Kept weak words) good stands = refl

with_at-out : (f : ℕ → Bool) (n : ℕ) (v : Bool) (i : ℕ) → (i ≡ n → ⊥) → with_at f n v i ≡ f i
with_at-out f n v i out = ap (λ t. cond t v (f i)) (ne_eqb i n out)

-- the lines beside one that was made something else
pub cell_stands-renewed : (m b : Medium) (n i : ℕ) (bad weak : Bool) (words : ℕ → List ℕ) (cell : Cell) → (i ≡ n → ⊥) → WritesBack (renewed m n bad weak words) b
    → CellStands m i cell → CellStands b i cell
cell_stands-renewed m b n i bad weak words cell out x stands = cell_stands-write_back (renewed m n bad weak words) b i cell x (beside cell stands)
  where
    beside : (cell : Cell) → CellStands m i cell → CellStands (renewed m n bad weak words) i cell
    beside Bad stands = with_at-out m.is_bad n bad i out ∙ stands
    beside (Kept mark kept) stands = (
      with_at-out m.is_bad n bad i out ∙ stands.0,
      with_at-out m.is_weak n weak i out ∙ stands.1,
      stands.2,
      λ w history found.
          let small : w < 8 = omega (arith, slice_get_within kept w history found, stands.2) in
          let on : (8 * i + w) / 8 ≡ i = omega (arith, small) in
          subst (WordWritesBack false history) (sym (on_line-out n (λ k _. words k) m.history (8 * i + w) (λ same. out (sym on ∙ same)))) (stands.3 w history found),
    )

pub cell_stands-beside_weak : (m b : Medium) (n i : ℕ) (cell : Cell) → (i ≡ n → ⊥) → Weakens n m b → CellStands m i cell → CellStands b i cell
cell_stands-beside_weak m b n i Bad out x stands = x.write_back.bad i ∙ stands
cell_stands-beside_weak m b n i (Kept weak words) out x stands = (
  x.write_back.bad i ∙ stands.0,
  x.marks i ∙ with_at-out m.is_weak n (not (m.is_bad n)) i out ∙ stands.1,
  stands.2,
  λ w history found.
      word_write_back-trans false _ _ _ (stands.3 w history found)
      (word_write_back-strong (m.is_weak ((8 * i + w) / 8)) _ _ (x.write_back.word_write_back (8 * i + w))),
)

pub changed_from : (f : Cell → Cell) (o : Option Cell) (y : Cell) → option_map f o ≡ Some y → (x : Cell) × (o ≡ Some x) × (f x ≡ y)
changed_from f None y e = cc
changed_from f (Some x) y e = (x, refl, cc)

-- a line and its cell changed alike, and all others as before
pub pages_stand-change : (f : Cell → Cell) (n : ℕ) (place : ℕ → ℕ) (m b : Medium) (pages : List Page) → PagesStand place m pages
    → ((cell : Cell) → CellStands m (place n) cell → CellStands b (place n) (f cell))
    → ((i : ℕ) (cell : Cell) → cell_of pages i ≡ Some cell → (i ≡ n → ⊥) → CellStands m (place i) cell → CellStands b (place i) cell)
    → PagesStand place b (change_line f n pages)
unfolding change_line
pages_stand-change f n place m b pages stand here beside = record { whole = whole; lines = lines }
  where
    whole : (i : ℕ) (cells : List Cell) → slice_get (map_from (map_lines (at_line f n)) 0 pages) i ≡ Some (Present cells) → length cells ≡ 64
    whole i cells is = by_page (slice_get pages i) refl (sym (slice_get-map_from (map_lines (at_line f n)) 0 pages i) ∙ is)
      where
        by_page : (o : Option Page) → slice_get pages i ≡ o → option_map (map_lines (at_line f n) (0 + i)) o ≡ Some (Present cells) → length cells ≡ 64
        by_page None was is = cc
        by_page (Some Absent) was is = cc
        by_page (Some (Present old)) was is =
            let same : map_from (at_line f n) (64 * (0 + i)) old ≡ cells = cc in
            ap length (sym same) ∙ length-map_from (at_line f n) (64 * (0 + i)) old ∙ stand.whole i old was

    lines : (i : ℕ) (cell : Cell) → cell_of (map_from (map_lines (at_line f n)) 0 pages) i ≡ Some cell → CellStands b (place i) cell
    lines i cell is =
        let was = changed_from (at_line f n i) (cell_of pages i) cell (sym (cell_of-map (at_line f n) pages i) ∙ is) in
        subst (CellStands b (place i)) was.2
        (elim (cases_eq i n) as (λ _. CellStands b (place i) (at_line f n i was.0)) [
          | inl same ↦
              subst (λ k. CellStands b (place k) (at_line f n k was.0)) (sym same)
              (subst (CellStands b (place n)) (sym (at_line-here f n was.0))
              (here was.0 (subst (λ k. CellStands m (place k) was.0) same (stand.lines i was.0 was.1))))
          | inr out ↦
              subst (CellStands b (place i)) (sym (at_line-beside f n i was.0 out)) (beside i was.0 was.1 out (stand.lines i was.0 was.1))
        ])
