-- Worked scripts: the medium that they are performed on, and their text.
use Rattle.std.specs.Prelude.{ℕ, List, [], ◌∷◌, ◌++◌}
use Rattle.word_tables.specs.declared.geometry.Geometry.{Geometry}

-- two volume pages
abbrev pub small : Geometry
small = record { blocks = 8; vpages = 2; fpages = 32 }

-- lines, each ended by a newline
abbrev pub text : List (List ℕ) → List ℕ
text [] = []
text (line ∷ lines) = line ++ 10 ∷ text lines
