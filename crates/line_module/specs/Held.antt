-- A module's lines, read off what it holds of each: the durable bytes, unless the line is bad, and the values after them.
use Rattle.std.specs.Prelude.{ℕ, ◌/◌, ◌%◌, Bool, true, false, List, [], ◌∷◌, length, Option, Some, None, slice_get}
use Rattle.line_device.specs.Word.{word_at}
use Rattle.line_device.specs.Medium.{Medium}
use Rattle.line_module.specs.Chains.{after_durable, is_weak_state}
use Rattle.line_module.specs.declared.state.State.{State}

-- a line that is there, and bare
abbrev pub is_bare : Option (Option (List ℕ)) → Bool
is_bare None = false
is_bare (Some None) = true
is_bare (Some (Some bytes)) = false

-- a line that is there, and has bytes
abbrev pub is_held : Option (Option (List ℕ)) → Bool
is_held None = false
is_held (Some None) = false
is_held (Some (Some bytes)) = true

-- the values of word w of a line
abbrev pub history_in : Option (Option (List ℕ)) → Option State → ℕ → List ℕ
history_in None state w = []
history_in (Some None) state w = []
history_in (Some (Some bytes)) state w = word_at bytes w ∷ after_durable state w

-- all lines, from the durable bytes and the states
abbrev pub lines_in : List (Option (List ℕ)) → List State → Medium
lines_in durable states = record {
  count = length durable;
  is_bad = λ n. is_bare (slice_get durable n);
  is_weak = λ n. is_weak_state (slice_get states n);
  history = λ p. history_in (slice_get durable (p / 8)) (slice_get states (p / 8)) (p % 8);
}

-- the words of durable bytes, if there are any
abbrev pub words_of : Option (List ℕ) → ℕ → List ℕ
words_of None w = []
words_of (Some bytes) w = word_at bytes w ∷ []
