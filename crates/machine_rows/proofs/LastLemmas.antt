-- A test of all words of pages: a restart may leave their last values.
use Rattle.std.proofs.Common.{◌≡◌, ◌+◌, ◌*◌, ◌/◌, ◌%◌, ◌==◌, ◌&&◌, ℕ, zero, suc, Bool, true, false, not, Option, Some, None, option_and_then, List, [], ◌∷◌, slice_get, refl, sym, ap, subst, ◌∙◌, arith}
use Rattle.std.proofs.lemmas.Bool.{eqb-true, not-true, and_parts}
use Rattle.line_device.specs.History.{newest, IsIn}
use Rattle.line_device.specs.Panel.{Image}
use Rattle.line_device.specs.declared.line.Choice.{Choice}
use Rattle.line_device.proofs.TornLemmas.{may_keep-in}
use Rattle.nvm_model.specs.Cell.{Cell, MaySurvive, KeepsCell}
use Rattle.nvm_model.specs.Cell.Cell.{Bad, Kept}
use Rattle.nvm_model.specs.Page.{Page, cell_in, KeepsPages}
use Rattle.nvm_model.specs.Page.Page.{Absent, Present}
use Rattle.line_device.proofs.HistoryLemmas.{is_in-newest as newest-in}

-- each item passes a test that is told its number
abbrev pub all_from : {A : Type 0} → (ℕ → A → Bool) → ℕ → List A → Bool
all_from f n [] = true
all_from f n (x ∷ xs) = f n x && all_from f (suc n) xs

all_from-get : {A : Type 0} (f : ℕ → A → Bool) (n i : ℕ) (xs : List A) (x : A) → all_from f n xs ≡ true → slice_get xs i ≡ Some x → f (n + i) x ≡ true
all_from-get f n i [] x all is = cc
all_from-get f n zero (y ∷ ys) x all is =
    let e : n + 0 ≡ n = omega arith in
    let same : y ≡ x = cc in
    ap (λ k. f k x) e ∙ subst (λ z. f n z ≡ true) same (and_parts (f n y) _ all).0
all_from-get f n (suc i) (y ∷ ys) x all is =
    let e : n + suc i ≡ suc n + i = omega arith in
    ap (λ k. f k x) e ∙ all_from-get f (suc n) i ys x (and_parts (f n y) _ all).1 is

-- the image has the last value of a word
abbrev pub word_last : Image → ℕ → List ℕ → Bool
word_last image p [] = false
word_last image p (x ∷ xs) = image.word p == newest (x ∷ xs)

-- it has a line with its mark and its last values
abbrev pub cell_last : Image → ℕ → Cell → Bool
cell_last image line Bad = image.is_bad line
cell_last image line (Kept true words) = false
cell_last image line (Kept false words) = not (image.is_bad line) && (not (image.is_weak line) && all_from (word_last image) (8 * line) words)

-- and so all lines of pages, at their places; a page's lines are numbered from 64 * i
abbrev pub page_last : (ℕ → ℕ) → Image → ℕ → Page → Bool
page_last place image i Absent = true
page_last place image i (Present cells) = all_from (λ n. cell_last image (place n)) (64 * i) cells

abbrev pub pages_last : (ℕ → ℕ) → Image → List Page → Bool
pages_last place image pages = all_from (page_last place image) 0 pages

word_kept : (choice : Choice) (image : Image) (p : ℕ) (history : List ℕ) → word_last image p history ≡ true → MaySurvive image.unit choice history (image.word p)
word_kept choice image p [] e = cc
word_kept choice image p (x ∷ xs) e =
    let same : image.word p ≡ newest (x ∷ xs) = eqb-true (image.word p) (newest (x ∷ xs)) e in
    let in_it : IsIn (image.word p) (x ∷ xs) = subst (λ v. IsIn v (x ∷ xs)) (sym same) (newest-in x xs) in
    record { was = may_keep-in image.unit (image.word p) (x ∷ xs) in_it; last = λ _. same; whole = λ _. in_it }

cell_kept : (choice : Choice) (image : Image) (n : ℕ) (cell : Cell) → cell_last image n cell ≡ true → KeepsCell choice image n cell
cell_kept choice image n Bad e = e
cell_kept choice image n (Kept true words) e = cc
cell_kept choice image n (Kept false words) e =
    let parts = and_parts (not (image.is_bad n)) _ e in
    let more = and_parts (not (image.is_weak n)) _ parts.1 in (
      not-true (image.is_bad n) parts.0,
      not-true (image.is_weak n) more.0,
      λ w history found. word_kept choice image (8 * n + w) history (all_from-get (word_last image) (8 * n) w words history more.1 found),
    )

-- what passes may be left
pub keeps-last : (choice : Choice) (place : ℕ → ℕ) (image : Image) (pages : List Page) → pages_last place image pages ≡ true → KeepsPages choice place image pages
keeps-last choice place image pages all n cell is = by_page (slice_get pages (n / 64)) refl is
  where
    line : 64 * (0 + n / 64) + n % 64 ≡ n
    line = omega arith

    by_page : (page : Option Page) → slice_get pages (n / 64) ≡ page → option_and_then (λ p. cell_in p (n % 64)) page ≡ Some cell → KeepsCell choice image (place n) cell
    by_page None found is = cc
    by_page (Some Absent) found is = cc
    by_page (Some (Present cells)) found is =
        let here = all_from-get (page_last place image) 0 (n / 64) pages (Present cells) all found in
        cell_kept choice image (place n) cell
        (ap (λ k. cell_last image (place k) cell) (sym line) ∙ all_from-get (λ k. cell_last image (place k)) (64 * (0 + n / 64)) (n % 64) cells cell here is)
