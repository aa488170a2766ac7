-- Storage as reads see it: what is absent reads as zeros.
use Rattle.std.specs.Prelude.{ℕ, Option, Some, None, List}
use Rattle.nvm_model.specs.Cell.{Cell, zero_cell}
use Rattle.nvm_model.specs.Page.{Page, cell_of}

abbrev pub or_zeros : Option Cell → Cell
or_zeros None = zero_cell
or_zeros (Some cell) = cell

-- line n of pages
abbrev pub seen : List Page → ℕ → Cell
seen pages n = or_zeros (cell_of pages n)
