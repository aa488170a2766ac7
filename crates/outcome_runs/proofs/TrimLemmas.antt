-- Pages with no lines past the 64th, which no command sees.
use Rattle.std.proofs.Common.{◌≡◌, ℕ, zero, suc, ◌+◌, ◌*◌, ◌/◌, ◌%◌, ◌<◌, ◌≤◌, Bool, true, false, Option, Some, None, option_map, option_and_then, List, [], ◌∷◌, length, map, slice_get, slice_index_or, take, refl, sym, ap, subst, ◌∙◌, arith}
use mathlib.Core.Path.{fun_ext}
use Rattle.std.proofs.lemmas.List.{length-map, length-take}
use Rattle.std.proofs.lemmas.Option.{slice_get-map, slice_get_within}
use Rattle.nvm_model.specs.Cell.{Cell, cell_byte, lowest_touched}
use Rattle.nvm_model.specs.Cell.Cell.{Bad, Kept}
use Rattle.nvm_model.specs.Interrupted.{Became}
use Rattle.nvm_model.specs.Numbered.{list_from}
use Rattle.nvm_model.specs.Page.{Page, cell_in, cell_of, first_bad_line, is_bad_cell, look, presence_of}
use Rattle.nvm_model.specs.Page.Page.{Absent, Present}
use Rattle.durable.specs.Durable.{HaveLines, IsLineThere}
use Rattle.durable.specs.Place.{is_line_present}
use Rattle.durable.proofs.PresenceLemmas.{has_lines, page_present}
use Rattle.state_images.proofs.PageLemmas.{page-of_line}
use Rattle.outcomes.specs.Outcome.{PagesSurvive, Survives}
use Rattle.state_images.specs.Keeping.{LineSurvives, PagesSurvive as PagesKept}
use Rattle.state_images.specs.Shapes.{AreWhole}

abbrev pub trim_page : Page → Page
trim_page Absent = Absent
trim_page (Present cells) = Present (take 64 cells)

abbrev pub trim : List Page → List Page
trim pages = map trim_page pages

pub length-trim : (pages : List Page) → length (trim pages) ≡ length pages
length-trim pages = length-map pages trim_page

pub presence_of-trim : (pages : List Page) → presence_of (trim pages) ≡ presence_of pages
presence_of-trim [] = refl
presence_of-trim (Absent ∷ pages) = ap (λ (bs : List Bool). false ∷ bs) (presence_of-trim pages)
presence_of-trim (Present cells ∷ pages) = ap (λ (bs : List Bool). true ∷ bs) (presence_of-trim pages)

taken : {A : Type 0} (xs : List A) (n k : ℕ) → k < n → slice_get (take n xs) k ≡ slice_get xs k
taken [] zero k low = refl
taken [] (suc n) k low = refl
taken (x ∷ xs) zero k low = absurd (omega (arith, low))
taken (x ∷ xs) (suc n) zero low = refl
taken (x ∷ xs) (suc n) (suc k) low = taken xs n k (omega (arith, low))

in_trimmed : (page : Page) (k : ℕ) → k < 64 → cell_in (trim_page page) k ≡ cell_in page k
in_trimmed Absent k low = refl
in_trimmed (Present cells) k low = taken cells 64 k low

pub cell_of-trim : (pages : List Page) (n : ℕ) → cell_of (trim pages) n ≡ cell_of pages n
cell_of-trim pages n = ap (option_and_then (λ page. cell_in page (n % 64))) (slice_get-map trim_page pages (n / 64)) ∙ by_page (slice_get pages (n / 64))
  where
    by_page : (o : Option Page) → option_and_then (λ page. cell_in page (n % 64)) (option_map trim_page o) ≡ option_and_then (λ page. cell_in page (n % 64)) o
    by_page None = refl
    by_page (Some page) = in_trimmed page (n % 64) (omega arith)

-- what is read of lines
lines_same : (pages : List Page) → cell_of (trim pages) ≡ cell_of pages
lines_same pages = fun_ext (cell_of-trim pages)

pub look-trim : (pages : List Page) (start len : ℕ) → look (trim pages) start len ≡ look pages start len
unfolding look
look-trim pages start len =
    ap (λ (lines : ℕ → Option Cell). list_from (λ i. elim (lines (i / 64)) as (λ _. ℕ) [ None ↦ 0 | Some cell ↦ cell_byte cell (i % 64) ]) start len) (lines_same pages)

pub first_bad-trim : (pages : List Page) (start len : ℕ) → first_bad_line (trim pages) start len ≡ first_bad_line pages start len
unfolding first_bad_line
first_bad-trim pages start len = ap (λ (lines : ℕ → Option Cell). lowest_touched (λ n. is_bad_cell (lines n)) start len) (lines_same pages)

-- what survives of pages survives trimmed
as_kept : (old new : Cell) → Survives old new → LineSurvives old new
as_kept Bad Bad survives = tt
as_kept Bad (Kept mark values) survives = absurd survives
as_kept (Kept weak words) Bad survives = absurd survives
as_kept (Kept weak words) (Kept mark values) survives = survives

became_kept : (old new : Option Cell) → Became Survives old new → Became LineSurvives old new
became_kept None None survives = tt
became_kept None (Some new) survives = absurd survives
became_kept (Some old) None survives = absurd survives
became_kept (Some old) (Some new) survives = as_kept old new survives

pub trim_survives : (left pages : List Page) → PagesSurvive left pages → PagesKept left (trim pages)
trim_survives left pages survive = record {
  there = presence_of-trim pages ∙ survive.there;
  each = λ n. subst (Became LineSurvives (cell_of left n)) (sym (cell_of-trim pages n)) (became_kept (cell_of left n) (cell_of pages n) (survive.each n));
}

-- and has its 64 lines
some_new : (old new : Option Cell) → IsLineThere old → Became Survives old new → (cell : Cell) × (new ≡ Some cell)
some_new None new there survives = absurd there
some_new (Some old) None there survives = absurd survives
some_new (Some old) (Some new) there survives = (new, refl)

pub trim_whole : (left pages : List Page) → HaveLines left → PagesSurvive left pages → AreWhole (trim pages)
trim_whole left pages lines survive i cells is = by_page (slice_get pages i) refl (sym (slice_get-map trim_page pages i) ∙ is)
  where
    by_page : (o : Option Page) → slice_get pages i ≡ o → option_map trim_page o ≡ Some (Present cells) → length cells ≡ 64
    by_page None was found = cc found
    by_page (Some Absent) was found = cc found
    by_page (Some (Present all)) was found =
        let n : ℕ = 64 * i + 63 in
        let at : n / 64 ≡ i = omega arith in
        let page : slice_get pages (n / 64) ≡ Some (Present all) = ap (slice_get pages) at ∙ was in
        let there : is_line_present left n ≡ true =
        ap (λ (bs : List Bool). slice_index_or bs (n / 64) false) (sym survive.there) ∙ page_present pages n ∙ ap has_lines page in
        let last = some_new (cell_of left n) (cell_of pages n) (lines n there) (survive.each n) in
        let line = page-of_line pages n last.0 last.1 in
        let same : line.0 ≡ all = cc (line.1, page) in
        let trimmed : take 64 all ≡ cells = cc found in
        let end : n % 64 ≡ 63 = omega arith in
        let within : n % 64 < length line.0 = slice_get_within line.0 (n % 64) last.0 line.2 in
        let long : 64 ≤ length all = omega (arith, within, end, ap length {x = line.0} same) in
        sym (ap length trimmed) ∙ omega (arith, length-take 64 all, long)
