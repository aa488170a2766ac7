-- Several spans made durable, one after another.
use Rattle.std.proofs.Common.{◌≡◌, ◌⊎◌, inl, inr, ℕ, suc, zero, ◌||◌, Bool, true, false, cond, Option, Some, None, option_map, List, [], ◌∷◌, ◌++◌, length, map, take, refl, sym, ap, subst, ◌∙◌}
use Rattle.std.specs.List.{list_any}
use Rattle.std.proofs.lemmas.Bool.{cases_Bool, false≢true, or_left, or_right}
use Rattle.std.proofs.lemmas.List.Folds.{list_any-append}
use Rattle.nvm_base.specs.declared.units.Span.{Span}
use Rattle.line_device.specs.History.{latest}
use Rattle.line_device.proofs.HistoryLemmas.{latest-latest}
use Rattle.nvm_model.specs.Cell.{Cell, flush_cell, persist_cell, touches}
use Rattle.nvm_model.specs.Cell.Cell.{Bad, Kept}
use Rattle.nvm_model.specs.Interrupted.{Became, MayPersist, MayPersistTouched, MaySync, MaySyncAll}
use Rattle.nvm_model.specs.Numbered.{map_from}
use Rattle.nvm_model.specs.Page.{Page, cell_of, map_lines, persist, presence_of}
use Rattle.nvm_model.specs.Page.Page.{Absent, Present}
use Rattle.nvm_model.specs.Touched.{persist_spans, persist_touched, touches_any}
use Rattle.nvm_model.proofs.NumberedLemmas.{length-map_from}
use Rattle.nvm_model.proofs.PageLemmas.{cell_of-map, presence_of-lines}

-- each item changed twice
map_from-twice : {A B C : Type 0} (f : ℕ → A → B) (g : ℕ → B → C) (n : ℕ) (xs : List A) → map_from g n (map_from f n xs) ≡ map_from (λ k x. g k (f k x)) n xs
map_from-twice f g n [] = refl
map_from-twice f g n (x ∷ xs) = ap (λ ys. g n (f n x) ∷ ys) (map_from-twice f g (suc n) xs)

lines-twice : (f g : ℕ → Cell → Cell) (i : ℕ) (page : Page) → map_lines g i (map_lines f i page) ≡ map_lines (λ n cell. g n (f n cell)) i page
lines-twice f g i Absent = refl
lines-twice f g i (Present cells) = ap (λ cs. Present cs) (map_from-twice f g _ cells)

pub pages-twice : (f g : ℕ → Cell → Cell) (pages : List Page) → map_from (map_lines g) 0 (map_from (map_lines f) 0 pages) ≡ map_from (map_lines (λ n cell. g n (f n cell))) 0 pages
pages-twice f g pages = map_from-twice (map_lines f) (map_lines g) 0 pages ∙ ap (λ (h : ℕ → Page → Page). map_from h 0 pages) (λ i k page. lines-twice f g k page i)

-- each item kept
map_from-kept : {A : Type 0} (n : ℕ) (xs : List A) → map_from (λ _ x. x) n xs ≡ xs
map_from-kept n [] = refl
map_from-kept n (x ∷ xs) = ap (λ ys. x ∷ ys) (map_from-kept (suc n) xs)

lines-kept : (i : ℕ) (page : Page) → map_lines (λ _ cell. cell) i page ≡ page
lines-kept i Absent = refl
lines-kept i (Present cells) = ap (λ cs. Present cs) (map_from-kept _ cells)

pub spans-none : (pages : List Page) → persist_spans [] pages ≡ pages
unfolding persist_spans
spans-none pages = ap (λ (h : ℕ → Page → Page). map_from h 0 pages) (λ i k page. lines-kept k page i) ∙ map_from-kept 0 pages

-- what is durable stays so
flushed-twice : (cell : Cell) → flush_cell (flush_cell cell) ≡ flush_cell cell
flushed-twice Bad = refl
flushed-twice (Kept true words) = refl
flushed-twice (Kept false words) = ap (λ ws. Kept false ws) (words-twice words)
  where
    words-twice : (words : List (List ℕ)) → map latest (map latest words) ≡ map latest words
    words-twice [] = refl
    words-twice (w ∷ ws) = let head = latest-latest w in rw head (ap (λ vs. latest w ∷ vs) (words-twice ws))

flushed-either : (a b : Bool) (cell : Cell) → cond b (flush_cell (cond a (flush_cell cell) cell)) (cond a (flush_cell cell) cell) ≡ cond (a || b) (flush_cell cell) cell
flushed-either true true cell = flushed-twice cell
flushed-either true false cell = refl
flushed-either false true cell = refl
flushed-either false false cell = refl

or_false : (b : Bool) → (b || false) ≡ b
or_false true = refl
or_false false = refl

pub touches-one : (span : Span) (n : ℕ) → touches_any (span ∷ []) n ≡ touches span.start span.len n
touches-one span n = or_false (touches span.start span.len n)

pub touches-last : (xs : List Span) (span : Span) (n : ℕ) → touches_any (xs ++ span ∷ []) n ≡ (touches_any xs n || touches span.start span.len n)
touches-last xs span n = list_any-append (λ (s : Span). touches s.start s.len n) xs (span ∷ []) ∙ ap (λ b. touches_any xs n || b) (touches-one span n)

-- a line after one span more, the last one or the first
persisted-last : (xs : List Span) (span : Span) (n : ℕ) (cell : Cell) → persist_cell span.start span.len n (persist_touched xs n cell) ≡ persist_touched (xs ++ span ∷ []) n cell
persisted-last xs span n cell =
    flushed-either (touches_any xs n) (touches span.start span.len n) cell ∙ ap (λ b. cond b (flush_cell cell) cell) (sym (touches-last xs span n))

persisted-first : (span : Span) (xs : List Span) (n : ℕ) (cell : Cell) → persist_touched (span ∷ xs) n cell ≡ persist_touched xs n (persist_cell span.start span.len n cell)
persisted-first span xs n cell = sym (flushed-either (touches span.start span.len n) (touches_any xs n) cell)

pub spans-last : (xs : List Span) (span : Span) (pages : List Page) → persist span.start span.len (persist_spans xs pages) ≡ persist_spans (xs ++ span ∷ []) pages
unfolding persist persist_spans
spans-last xs span pages =
    pages-twice (persist_touched xs) (persist_cell span.start span.len) pages
    ∙ ap (λ (f : ℕ → Cell → Cell). map_from (map_lines f) 0 pages) (λ i n cell. persisted-last xs span n cell i)

pub spans-first : (span : Span) (xs : List Span) (pages : List Page) → persist_spans (span ∷ xs) pages ≡ persist_spans xs (persist span.start span.len pages)
unfolding persist persist_spans
spans-first span xs pages =
    ap (λ (f : ℕ → Cell → Cell). map_from (map_lines f) 0 pages) (λ i n cell. persisted-first span xs n cell i)
    ∙ sym (pages-twice (persist_cell span.start span.len) (persist_touched xs) pages)

pub cell_of-spans : (spans : List Span) (pages : List Page) (n : ℕ) → cell_of (persist_spans spans pages) n ≡ option_map (persist_touched spans n) (cell_of pages n)
unfolding persist_spans
cell_of-spans spans pages n = cell_of-map (persist_touched spans) pages n

pub presence_of-spans : (spans : List Span) (pages : List Page) → presence_of (persist_spans spans pages) ≡ presence_of pages
unfolding persist_spans
presence_of-spans spans pages = presence_of-lines (persist_touched spans) 0 pages

pub length-spans : (spans : List Span) (pages : List Page) → length (persist_spans spans pages) ≡ length pages
unfolding persist_spans
length-spans spans pages = length-map_from _ 0 pages

-- what the first spans touch
any_taken : {X : Type 0} (p : X → Bool) (k : ℕ) (xs : List X) → list_any p (take k xs) ≡ true → list_any p xs ≡ true
any_taken p zero xs is = absurd (false≢true is)
any_taken p (suc k) [] is = is
any_taken p (suc k) (x ∷ xs) is =
    elim (cases_Bool (p x)) as (λ _. list_any p (x ∷ xs) ≡ true) [
      | inl here ↦ or_left (p x) (list_any p xs) here
      | inr not ↦ or_right (p x) (list_any p xs) (any_taken p k xs (sym (ap (λ b. b || list_any p (take k xs)) not) ∙ is))
    ]

pub touches-taken : (spans : List Span) (k n : ℕ) → touches_any (take k spans) n ≡ true → touches_any spans n ≡ true
touches-taken spans k n is = any_taken (λ (s : Span). touches s.start s.len n) k spans is

-- what may be left once all were made durable, and where one of them was interrupted after some
pub may_sync_all-done : (spans : List Span) (pages : List Page) → MaySyncAll spans pages (persist_spans spans pages)
may_sync_all-done spans pages = record {
  there = presence_of-spans spans pages;
  each = λ n. subst (Became (MayPersistTouched spans n) (cell_of pages n)) (sym (cell_of-spans spans pages n)) (by_cell n (cell_of pages n));
}
  where
    by_cell : (n : ℕ) (o : Option Cell) → Became (MayPersistTouched spans n) o (option_map (persist_touched spans n) o)
    by_cell n None = tt
    by_cell n (Some cell) = inr refl

left-touched : (t u : Bool) (old new : Cell) → (t ≡ true → u ≡ true) → new ≡ cond t (flush_cell old) old → (new ≡ old) ⊎ (new ≡ cond u (flush_cell old) old)
left-touched true u old new so is = inr (is ∙ ap (λ b. cond b (flush_cell old) old) (sym (so refl)))
left-touched false u old new so is = inl is

pub may_sync-after : (spans xs : List Span) (span : Span) → ((n : ℕ) → touches_any (xs ++ span ∷ []) n ≡ true → touches_any spans n ≡ true) → (old new : List Page)
    → MaySync span.start span.len (persist_spans xs old) new → MaySyncAll spans old new
may_sync-after spans xs span so old new may = record {
  there = may.there ∙ presence_of-spans xs old;
  each = λ n. by_cell n (cell_of old n) (cell_of new n) (subst (λ o. Became (MayPersist span.start span.len n) o (cell_of new n)) (cell_of-spans xs old n) (may.each n));
}
  where
    some : (n : ℕ) → touches_any xs n ≡ true → touches_any spans n ≡ true
    some n is = so n (touches-last xs span n ∙ or_left (touches_any xs n) (touches span.start span.len n) is)

    by_left : (n : ℕ) (x y : Cell) → MayPersist span.start span.len n (persist_touched xs n x) y → MayPersistTouched spans n x y
    by_left n x y (inl same) = left-touched (touches_any xs n) (touches_any spans n) x y (some n) same
    by_left n x y (inr done) = left-touched (touches_any (xs ++ span ∷ []) n) (touches_any spans n) x y (so n) (done ∙ persisted-last xs span n x)

    by_cell : (n : ℕ) (o p : Option Cell) → Became (MayPersist span.start span.len n) (option_map (persist_touched xs n) o) p → Became (MayPersistTouched spans n) o p
    by_cell n None None left = tt
    by_cell n None (Some y) left = left
    by_cell n (Some x) None left = left
    by_cell n (Some x) (Some y) left = by_left n x y left
