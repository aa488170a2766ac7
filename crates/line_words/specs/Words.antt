-- What calls on single words leave of the lines.
use Rattle.std.specs.Prelude.{◌≡◌, ℕ, ◌+◌, ◌*◌, ◌/◌, ◌<◌, ◌==◌, false, List, [], ◌∷◌, ◌++◌, if◌then◌else◌}
use Rattle.line_device.specs.Word.{word_at}
use Rattle.line_device.specs.History.{WordWritesBack, IsIn}
use Rattle.line_device.specs.Medium.{Medium, IsHealthy}

-- a word has this value and no other
abbrev pub IsOnly : ℕ → List ℕ → Type 0
IsOnly v history = (x : ℕ) → IsIn x history → x ≡ v

-- the line is on the device, and neither bad nor weak
pub record IsGoodLine (m : Medium) (line : ℕ) : Type 0 where
  pub healthy : IsHealthy m line
  pub strong : m.is_weak line ≡ false

-- the word at a place has one value more
abbrev pub with_word : Medium → ℕ → ℕ → Medium
with_word m place value =
    record m { history = λ p. if p == place then m.history p ++ value ∷ [] else m.history p }

-- all marks stay, and each word but these is only written back
pub record WritesBackOutside (inside : ℕ → Type 0) (old new : Medium) : Type 0 where
  pub count : new.count ≡ old.count
  pub bad : (n : ℕ) → new.is_bad n ≡ old.is_bad n
  pub weak : (n : ℕ) → new.is_weak n ≡ old.is_weak n
  pub word_write_back : (p : ℕ) → (inside p → ⊥) → WordWritesBack (old.is_weak (p / 8)) (old.history p) (new.history p)

-- The marks of all lines but these stay, and their words are only written back. No line becomes bad or weak.
pub record WritesBackBeside (lines : ℕ → Type 0) (old new : Medium) : Type 0 where
  pub count : new.count ≡ old.count
  pub stays_good : (n : ℕ) → old.is_bad n ≡ false → new.is_bad n ≡ false
  pub stays_strong : (n : ℕ) → old.is_weak n ≡ false → new.is_weak n ≡ false
  pub bad : (n : ℕ) → (lines n → ⊥) → new.is_bad n ≡ old.is_bad n
  pub weak : (n : ℕ) → (lines n → ⊥) → new.is_weak n ≡ old.is_weak n
  pub word_write_back : (p : ℕ) → (lines (p / 8) → ⊥) → WordWritesBack (old.is_weak (p / 8)) (old.history p) (new.history p)

-- the line is good, and has these bytes durably
pub record HoldsLine (m : Medium) (line : ℕ) (bytes : List ℕ) : Type 0 where
  pub good_line : IsGoodLine m line
  pub words : (w : ℕ) → w < 8 → IsOnly (word_at bytes w) (m.history (8 * line + w))
