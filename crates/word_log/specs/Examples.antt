-- A small log, worked through.
use Rattle.std.specs.Prelude.{ℕ, List, map}
use Rattle.std.specs.List.{range_with_len}
use Rattle.word_log.specs.declared.area.LogArea.{LogArea}
use Rattle.word_log.specs.Changes.{changed}

-- two lines of log with room for four entries, and the third line as home
abbrev pub small_area : LogArea
small_area = record { log = record { start = 0; len = 2 }; cap = 4; home = record { start = 16; len = 8 } }

-- zeros, but for these words
abbrev pub zeros_but : List (ℕ × ℕ) → ℕ → ℕ
zeros_but words = changed words (λ _. 0)

-- the eight home words
abbrev pub home_words : (ℕ → ℕ) → List ℕ
home_words word = map word (range_with_len 16 8)
