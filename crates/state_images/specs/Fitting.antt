-- Values that a word of eight bytes has.
use Rattle.std.specs.Prelude.{◌≡◌, ◌<◌, ◌^◌, ℕ, List, [], ◌∷◌, Some}
use Rattle.nvm_model.specs.Cell.{Cell}
use Rattle.nvm_model.specs.Page.{Page, cell_of}
use Rattle.nvm_model.specs.Storage.{File}
use Rattle.state_images.specs.Lines.{shown_word}

-- each word of a line, and of each line of pages and of files
abbrev pub LineFits : Cell → Type 0
LineFits cell = (k : ℕ) → shown_word cell k < 2 ^ 64

abbrev pub PagesFit : List Page → Type 0
PagesFit pages = (n : ℕ) (cell : Cell) → cell_of pages n ≡ Some cell → LineFits cell

abbrev pub FilesFit : List File → Type 0
FilesFit [] = Unit {0}
FilesFit (file ∷ files) = PagesFit file.pages × FilesFit files
