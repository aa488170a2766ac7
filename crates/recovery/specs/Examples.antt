-- A device of the smallest sizes, worked through.
use Rattle.std.specs.Prelude.{◌/◌, ◌==◌, ℕ, Bool, false, [], ◌∷◌, if◌then◌else◌}
use Rattle.line_device.specs.Medium.{Medium, with_at}
use Rattle.word_tables.specs.declared.geometry.Geometry.{Geometry}
use Rattle.word_tables.specs.Superblock.{superblock_word}

abbrev pub smallest : Geometry
smallest = record { blocks = 8; vpages = 2; fpages = 32 }

-- no line
abbrev pub nowhere : ℕ → Bool
nowhere n = false

-- one line
abbrev pub only : ℕ → ℕ → Bool
only line n = n == line

-- its superblock, and else zeros, but for one word
abbrev pub superblock_but : ℕ → ℕ → ℕ → ℕ
superblock_but place value = with_at (superblock_word smallest) place value

-- a device of all its lines, with these marks and words
abbrev pub small_device : (ℕ → Bool) → (ℕ → Bool) → (ℕ → ℕ) → Medium
small_device bad weak word = record { count = 5056; is_bad = bad; is_weak = weak; history = λ p. if bad (p / 8) then [] else word p ∷ [] }
