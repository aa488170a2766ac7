-- What becomes of single lines of a device, as cells.
use Rattle.std.specs.Prelude.{◌≡◌, ◌⊎◌, ◌/◌, ℕ, false}
use Rattle.line_device.specs.History.{WordWritesBack}
use Rattle.line_device.specs.Medium.{Medium}
use Rattle.nvm_model.specs.Cell.{Cell, CellStands, zero_cell}
use Rattle.nvm_model.specs.Cell.Cell.{Bad, Kept}

-- what the line stood for became this of it
pub record Turns (f : Cell → Cell) (line : ℕ) (old new : Medium) : Type 0 where
  pub stands : (cell : Cell) → CellStands old line cell → CellStands new line (f cell)

-- what the line stood for became one of those that R leaves of it
pub record MayTurn (R : Cell → Cell → Type 0) (line : ℕ) (old new : Medium) : Type 0 where
  pub leaves : (cell : Cell) → CellStands old line cell → (left : Cell) × R cell left × CellStands new line left

-- what may be left of a line that is cleared: it is zeros, or as before
abbrev pub MayClear : Cell → Cell → Type 0
MayClear old new = (new ≡ old) ⊎ (new ≡ zero_cell)

-- The marks of all lines but these stay, and their words are only written back. No line becomes weak, and a line becomes bad
-- only where it was weak.
pub record WritesBackOthers (lines : ℕ → Type 0) (old new : Medium) : Type 0 where
  pub count : new.count ≡ old.count
  pub bad : (n : ℕ) → (lines n → ⊥) → new.is_bad n ≡ old.is_bad n
  pub weak : (n : ℕ) → (lines n → ⊥) → new.is_weak n ≡ old.is_weak n
  pub stays_strong : (n : ℕ) → old.is_weak n ≡ false → new.is_weak n ≡ false
  pub stays_good : (n : ℕ) → old.is_bad n ≡ false → old.is_weak n ≡ false → new.is_bad n ≡ false
  pub word_write_back : (p : ℕ) → (lines (p / 8) → ⊥) → WordWritesBack (old.is_weak (p / 8)) (old.history p) (new.history p)

-- a bad line cleared
abbrev pub healed : Cell → Cell
healed Bad = zero_cell
healed (Kept weak words) = Kept weak words
