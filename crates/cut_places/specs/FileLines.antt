-- One line among those that are held of a file.
use Rattle.std.specs.Prelude.{◌==◌, ℕ, List, Option, find, option_map}
use Rattle.nvm_model.specs.Cell.{Cell}
use Rattle.cut_places.specs.declared.line.FileLine.{FileLine}

-- the first of that number
abbrev pub line_held : ℕ → List FileLine → Option Cell
line_held n lines = option_map (λ (line : FileLine). line.line) (find (λ (line : FileLine). line.number == n) lines)
