-- What calls that spoil lines leave of the others.
use Rattle.std.specs.Prelude.{◌≡◌, ◌/◌, ℕ}
use Rattle.line_device.specs.History.{WordWritesBack}
use Rattle.line_device.specs.Medium.{Medium}

-- The marks of all lines but these stay, and their words are only written back.
pub record WritesBackBut (lines : ℕ → Type 0) (old new : Medium) : Type 0 where
  pub count : new.count ≡ old.count
  pub bad : (n : ℕ) → (lines n → ⊥) → new.is_bad n ≡ old.is_bad n
  pub weak : (n : ℕ) → (lines n → ⊥) → new.is_weak n ≡ old.is_weak n
  pub word_write_back : (p : ℕ) → (lines (p / 8) → ⊥) → WordWritesBack (old.is_weak (p / 8)) (old.history p) (new.history p)
