-- A device that was made anew: its superblock, and then zeros.
use Rattle.std.specs.Prelude.{◌≡◌, ◌/◌, ◌<◌, ℕ, false, [], ◌∷◌, nat_lt, if◌then◌else◌}
use Rattle.line_device.specs.Medium.{Medium}
use Rattle.line_words.specs.Words.{IsOnly}
use Rattle.word_tables.specs.declared.geometry.Geometry.{Geometry}
use Rattle.word_tables.specs.Bounds.{IsValid}
use Rattle.word_tables.specs.Layout.{total_lines}
use Rattle.word_tables.specs.Superblock.{superblock_word}

-- the words of the first line are the superblock of these sizes, durably
abbrev pub HasSuperblock : Geometry → Medium → Type 0
HasSuperblock geo m = (p : ℕ) → p < 8 → IsOnly (superblock_word geo p) (m.history p)

-- the words of a fresh device
abbrev pub fresh_word : Geometry → ℕ → ℕ
fresh_word geo p = if nat_lt p 8 then superblock_word geo p else 0

-- a device of the whole layout, each word with its one value, no line bad or weak
pub record IsFresh (geo : Geometry) (m : Medium) : Type 0 where
  pub valid : IsValid geo
  pub count : m.count ≡ total_lines geo
  pub good : (n : ℕ) → m.is_bad n ≡ false
  pub strong : (n : ℕ) → m.is_weak n ≡ false
  pub words : (p : ℕ) → p / 8 < m.count → m.history p ≡ fresh_word geo p ∷ []
