-- One line of pages that lie at given places: where it is, and what the device stands for once it is changed.
use Rattle.std.proofs.Common.{◌≡◌, ℕ, ◌/◌, Bool, true, false, Option, Some, None, List, [], ◌∷◌, slice_get, refl, sym, ap, subst, ◌∙◌}
use Rattle.std.proofs.lemmas.Option.{none-some, same_Some}
use Rattle.line_device.specs.Medium.{Medium, Weakens, WritesBack, cleared, poisoned}
use Rattle.nvm_model.specs.Cell.{Cell, CellStands, clear_cell, lose_cell, weaken_cell}
use Rattle.nvm_model.specs.Page.{Page, PagesStand, cell_of, change_line, presence_of}
use Rattle.nvm_model.proofs.MediaLemmas.{cell_stands-beside_weak, cell_stands-cleared, cell_stands-poisoned, cell_stands-renewed, cell_stands-weakened, pages_stand-change}
use Rattle.page_lines.proofs.StandingLemmas.{Located, cell_at, cell_there}

-- one line became what f makes of it, and all others stand for what they stood for
pub record ChangesLine (f : Cell → Cell) (line : ℕ) (old new : Medium) : Type 0 where
  pub here : (cell : Cell) → CellStands old line cell → CellStands new line (f cell)
  pub beside : (i : ℕ) (cell : Cell) → (i ≡ line → ⊥) → CellStands old i cell → CellStands new i cell

pub changes-poisoned : (old new : Medium) (line : ℕ) → WritesBack (poisoned old line) new → ChangesLine lose_cell line old new
changes-poisoned old new line x = record {
  here = λ cell _. cell_stands-poisoned old new line x;
  beside = λ i cell out stands. cell_stands-renewed old new line i true false (λ _. []) cell out x stands;
}

pub changes-weakened : (old new : Medium) (line : ℕ) → Weakens line old new → ChangesLine weaken_cell line old new
changes-weakened old new line x = record {
  here = λ cell stands. cell_stands-weakened old new line cell x stands;
  beside = λ i cell out stands. cell_stands-beside_weak old new line i cell out x stands;
}

pub changes-cleared : (old new : Medium) (line : ℕ) → old.is_bad line ≡ true → WritesBack (cleared old line) new → ChangesLine clear_cell line old new
changes-cleared old new line bad x = record {
  here = λ cell stands. cell_stands-cleared old new line cell bad x stands;
  beside = λ i cell out stands. cell_stands-renewed old new line i false false (λ _. 0 ∷ []) cell out x stands;
}

module _ (place : ℕ → Option ℕ) (at : ℕ → ℕ) (there : List Bool) (located : Located place at there) (n line : ℕ) (here : place n ≡ Some line) where
  -- the page of a line that has a place is there
  pub page_here : slice_get there (n / 64) ≡ Some true
  page_here = by_page (slice_get there (n / 64)) refl
    where
      lacking : (o : Option Bool) → slice_get there (n / 64) ≡ o → (o ≡ Some true → ⊥) → slice_get there (n / 64) ≡ Some true
      lacking o is out = absurd (none-some line (sym (located.nowhere n (λ e. out (sym is ∙ e))) ∙ here))

      by_page : (o : Option Bool) → slice_get there (n / 64) ≡ o → slice_get there (n / 64) ≡ Some true
      by_page None is = lacking None is (λ e. cc e)
      by_page (Some false) is = lacking (Some false) is (λ e. cc e)
      by_page (Some true) is = is

  pub at_here : at n ≡ line
  at_here = same_Some (at n) line (sym (located.here n page_here) ∙ here)

  module _ (m : Medium) (pages : List Page) (is_there : presence_of pages ≡ there) (stand : PagesStand at m pages) where
    -- and the line stands for a cell
    pub cell_here : (cell : Cell) × (cell_of pages n ≡ Some cell) × CellStands m line cell
    cell_here =
        let cell = cell_at place at there located m pages is_there stand n page_here in
        (cell.0, cell.1, subst (λ l. CellStands m l cell.0) at_here (stand.lines n cell.0 cell.1))

    -- changed as its cell is
    pub stand-changed : (new : Medium) (f : Cell → Cell) → ((k : ℕ) → place k ≡ Some line → k ≡ n) → ChangesLine f line m new → PagesStand at new (change_line f n pages)
    stand-changed new f once x =
        pages_stand-change f n at m new pages stand
        (λ cell stands. subst (λ l. CellStands new l (f cell)) (sym at_here) (x.here cell (subst (λ l. CellStands m l cell) at_here stands)))
        (λ i cell is out stands.
        x.beside (at i) cell (λ same. out (once i (located.here i (cell_there place at there located m pages is_there stand i cell is) ∙ ap (λ (l : ℕ). Some l) same))) stands)

-- a line with no place is of no page that is there
pub no_cell : (place : ℕ → Option ℕ) (at : ℕ → ℕ) (there : List Bool) → Located place at there → (m : Medium) (pages : List Page) → presence_of pages ≡ there → PagesStand at m pages
    → (n : ℕ) → place n ≡ None → cell_of pages n ≡ None
no_cell place at there located m pages is_there stand n none = by_cell (cell_of pages n) refl
  where
    by_cell : (o : Option Cell) → cell_of pages n ≡ o → o ≡ None
    by_cell None is = refl
    by_cell (Some cell) is = absurd (none-some (at n) (sym none ∙ located.here n (cell_there place at there located m pages is_there stand n cell is)))
