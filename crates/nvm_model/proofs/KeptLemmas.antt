-- Lines that are only written back, and the cells and pages that they stand for.
use Rattle.std.proofs.Common.{◌≡◌, ℕ, ◌+◌, ◌*◌, ◌/◌, ◌<◌, false, Some, List, subst, ◌∙◌, arith}
use Rattle.std.proofs.lemmas.Option.{slice_get_within}
use Rattle.line_device.specs.History.{WordWritesBack}
use Rattle.line_device.specs.Medium.{Medium, WritesBack}
use Rattle.line_device.proofs.HistoryLemmas.{word_write_back-trans}
use Rattle.nvm_model.specs.Cell.{Cell, CellStands}
use Rattle.nvm_model.specs.Cell.Cell.{Bad, Kept}
use Rattle.nvm_model.specs.Page.{Page, cell_of, PagesStand}
use Rattle.nvm_model.proofs.StandLemmas.{word_write_back-strong}

-- the line is only written back
pub record LineKept (old new : Medium) (line : ℕ) : Type 0 where
  pub bad : new.is_bad line ≡ old.is_bad line
  pub weak : new.is_weak line ≡ old.is_weak line
  pub words : (p : ℕ) → p / 8 ≡ line → WordWritesBack (old.is_weak line) (old.history p) (new.history p)

pub line_kept-write_back : (old new : Medium) (line : ℕ) → WritesBack old new → LineKept old new line
line_kept-write_back old new line w = record {
  bad = w.bad line;
  weak = w.weak line;
  words = λ p at. subst (λ n. WordWritesBack (old.is_weak n) (old.history p) (new.history p)) at (w.word_write_back p);
}

pub cell-kept : (old new : Medium) (line : ℕ) (cell : Cell) → LineKept old new line → CellStands old line cell → CellStands new line cell
cell-kept old new line Bad kept stands = kept.bad ∙ stands
cell-kept old new line (Kept weak words) kept stands = (
  kept.bad ∙ stands.0,
  kept.weak ∙ stands.1,
  stands.2,
  λ w history found.
      let small : w < 8 = omega (arith, slice_get_within words w history found, stands.2) in
      word_write_back-trans false _ _ _ (stands.3 w history found)
      (word_write_back-strong (old.is_weak line) _ _ (kept.words (8 * line + w) (omega arith))),
)

-- pages stay where each of their lines is only written back
pub pages_stand-kept : (place : ℕ → ℕ) (old new : Medium) (pages : List Page) → ((n : ℕ) (cell : Cell) → cell_of pages n ≡ Some cell → LineKept old new (place n))
    → PagesStand place old pages → PagesStand place new pages
pages_stand-kept place old new pages kept stand = record {
  whole = stand.whole;
  lines = λ n cell is. cell-kept old new (place n) cell (kept n cell is) (stand.lines n cell is);
}
