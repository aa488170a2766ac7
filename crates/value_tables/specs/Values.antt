-- The values that a word may have once the power is back, what else may be found in its place, and what reads may see of a block, each once.
use Rattle.std.specs.Prelude.{◌==◌, ◌++◌, ℕ, Bool, true, false, List, [], ◌∷◌, slice_index_or, Some, if◌then◌else◌}
use Rattle.std.specs.List.{list_any}
use Rattle.nvm_model.specs.Cell.{Cell}
use Rattle.nvm_model.specs.Cell.Cell.{Bad, Kept}
use Rattle.nvm_model.specs.Page.{is_bad_cell}
use Rattle.block_sights.specs.Sights.{Sight}
use Rattle.cut_places.specs.SightsSeen.BlockTelling.{same_sight}
use Rattle.value_tables.specs.Left.{FileSide}
use Rattle.value_tables.specs.Left.FileSide.{NoFile, PastEnd, OfLine}

-- one more, unless it is there; and more, one after the other
abbrev pub with_one : {A : Type 0} → (A → A → Bool) → List A → A → List A
with_one same found x = if list_any (same x) found then found else found ++ x ∷ []

abbrev pub with_all : {A : Type 0} → (A → A → Bool) → List A → List A → List A
with_all same found [] = found
with_all same found (x ∷ xs) = with_all same (with_one same found x) xs

-- the values of word w of a line, oldest first; a bad line has none
abbrev pub history_of : ℕ → Cell → List ℕ
history_of w Bad = []
history_of w (Kept weak words) = slice_index_or words w []

-- what it may have where the line is one of these, behind what was found; and all of that
abbrev pub values_with : ℕ → List ℕ → List Cell → List ℕ
values_with w found [] = found
values_with w found (cell ∷ cells) = values_with w (with_all (λ a b. a == b) found (history_of w cell)) cells

abbrev pub word_values : ℕ → List Cell → List ℕ
word_values w cells = values_with w [] cells

-- one of the lines is bad
abbrev pub may_be_bad : List Cell → Bool
may_be_bad cells = list_any (λ cell. is_bad_cell (Some cell)) cells

-- there may be no such file, or one that ends before the word; and the lines that may have it
abbrev pub is_missing : FileSide → Bool
is_missing NoFile = true
is_missing PastEnd = false
is_missing (OfLine cell) = false

abbrev pub is_past : FileSide → Bool
is_past NoFile = false
is_past PastEnd = true
is_past (OfLine cell) = false

abbrev pub cells_of : List FileSide → List Cell
cells_of [] = []
cells_of (NoFile ∷ sides) = cells_of sides
cells_of (PastEnd ∷ sides) = cells_of sides
cells_of (OfLine cell ∷ sides) = cell ∷ cells_of sides

abbrev pub block_values : List Sight → List Sight
block_values sights = with_all same_sight [] sights
