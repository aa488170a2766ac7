-- Which lines of metadata are bad.
use Rattle.std.specs.Prelude.{ℕ, Bool, List, [], ◌∷◌, filter}
use Rattle.std.specs.List.{range_with_len}
use Rattle.word_tables.specs.declared.geometry.Geometry.{Geometry}
use Rattle.word_tables.specs.Layout.{meta_lines}

-- the lines of metadata that are bad, rising
abbrev pub bad_metadata : Geometry → (ℕ → Bool) → List ℕ
bad_metadata geo is_bad = filter is_bad (range_with_len 0 (meta_lines geo))

-- the first of such lines, the lowest
abbrev pub lowest : List ℕ → ℕ
lowest [] = 0
lowest (line ∷ lines) = line
