-- Which words got which values since their line was last durable, oldest first.
use Rattle.std.specs.Prelude.{◌==◌, ℕ, List, [], ◌∷◌, slice_index, if◌then◌else◌}
use Rattle.line_histories.specs.declared.log.Stored.{Stored}

-- the values of word w
abbrev pub history_in : List Stored → ℕ → List ℕ
history_in [] w = []
history_in (stored ∷ log) w = if stored.word == w then stored.value ∷ history_in log w else history_in log w

-- its history: the durable value, and those of the log
abbrev pub history : List ℕ → List Stored → ℕ → List ℕ
history durable log w = slice_index durable w ∷ history_in log w
