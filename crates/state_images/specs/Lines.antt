-- Lines given area by area, and the image that they are.
use Rattle.std.specs.Prelude.{◌-◌, ◌*◌, ◌/◌, ◌%◌, ℕ, Bool, true, false, List, [], ◌∷◌, nat_lt, slice_index_or, if◌then◌else◌}
use Rattle.line_device.specs.History.{newest}
use Rattle.line_device.specs.Panel.{Image}
use Rattle.nvm_model.specs.Cell.{Cell, zero_cell}
use Rattle.nvm_model.specs.Cell.Cell.{Bad, Kept}
use Rattle.nvm_model.specs.Numbered.{list_from}

-- Line n of areas of so many lines that lie one after the other: an area gives its lines by their number in it. Past the last area
-- there are zeros.
unfoldable pub laid : List ℕ → List (ℕ → Cell) → ℕ → Cell
laid [] areas n = zero_cell
laid (size ∷ sizes) [] n = zero_cell
laid (size ∷ sizes) (area ∷ areas) n = if nat_lt n size then area n else laid sizes areas (n - size)

-- the lines of an area of words, each given by its number in it
unfoldable pub words_line : (ℕ → ℕ) → ℕ → Cell
words_line word i = Kept false (list_from (λ w. word w ∷ []) (8 * i) 8)

-- what an image shows of a line
abbrev pub shown_bad : Cell → Bool
shown_bad Bad = true
shown_bad (Kept weak words) = false

abbrev pub shown_weak : Cell → Bool
shown_weak Bad = false
shown_weak (Kept weak words) = weak

abbrev pub shown_word : Cell → ℕ → ℕ
shown_word Bad k = 0
shown_word (Kept weak words) k = newest (slice_index_or words k [])

-- the image of so many lines
abbrev pub image_of_lines : ℕ → (ℕ → Cell) → Image
image_of_lines count line = record {
  count = count;
  is_bad = λ n. shown_bad (line n);
  is_weak = λ n. shown_weak (line n);
  unit = 8;
  word = λ p. shown_word (line (p / 8)) (p % 8);
}
