-- What a word keeps of its values when the power comes back.
use Rattle.std.specs.Prelude.{ℕ, Bool, true, false, ◌+◌, ◌*◌, ◌/◌, ◌%◌, ◌^◌, ◌==◌, List, [], ◌∷◌, length, take, slice_index}
use Rattle.std.specs.Int.{byte_at}
use Rattle.line_device.specs.History.{latest}
use Rattle.line_device.specs.Word.{word_from}
use Rattle.line_device.specs.declared.line.Choice.{Choice}
use Rattle.line_device.specs.declared.line.Choice.TheVariants.{Firsts, Lasts, Seed}

-- one step of a linear congruential generator from the seed and the place, its low 33 bits dropped
unfoldable pub drawn : ℕ → ℕ → ℕ
drawn seed place = ((seed + place) * 6364136223846793005 + 1442695040888963407) % 2 ^ 64 / 2 ^ 33

-- which of so many values is kept at a place by a seed: the word's place, or the byte's
abbrev pub survivor_index : ℕ → ℕ → ℕ → ℕ
survivor_index seed place len = drawn seed place % len

-- the value of that index
abbrev pub drawn_value : ℕ → ℕ → List ℕ → ℕ
drawn_value seed place h = slice_index h (survivor_index seed place (length h))

-- the word of which byte b is that of `value b`; beyond 64 bits it is that of another
unfoldable pub mixed_word : (ℕ → ℕ) → ℕ → ℕ
mixed_word value first = word_from (λ b. byte_at b (value b)) + 2 ^ 64 * (first / 2 ^ 64)

-- what a word with values keeps by a seed: the value drawn for it, or where bytes are kept, of each byte that of the value drawn for the byte
abbrev pub drawn_word : Bool → ℕ → ℕ → ℕ → List ℕ → ℕ
drawn_word false seed place first h = drawn_value seed place (first ∷ h)
drawn_word true seed place first h = mixed_word (λ b. drawn_value seed (8 * place + b) (first ∷ h)) first

-- what a history keeps by a seed, nothing where it has no value
abbrev pub drawn_of : Bool → ℕ → ℕ → List ℕ → List ℕ
drawn_of bytes seed place [] = []
drawn_of bytes seed place (first ∷ h) = drawn_word bytes seed place first h ∷ []

-- what the word at a place keeps of its history, in a module of this survival unit
abbrev pub survivor_of : ℕ → Choice → ℕ → List ℕ → List ℕ
survivor_of unit Firsts place h = take 1 h
survivor_of unit Lasts place h = latest h
survivor_of unit (Seed seed) place h = drawn_of (unit == 1) seed place h
