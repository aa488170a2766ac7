-- Words between bars.
use Rattle.std.specs.Prelude.{ℕ, Bool, List, [], ◌∷◌, Option, Some, None, if◌then◌else◌, codes}
use Rattle.std.specs.List.{onto_first}
use Rattle.std.specs.Str.{bytes_eq}

-- the word is a bar alone
abbrev pub is_bar : List ℕ → Bool
is_bar word = bytes_eq word (codes "|")

-- the words between bars: one part more than there are bars
abbrev pub parts_of : List (List ℕ) → List (List (List ℕ))
parts_of [] = [] ∷ []
parts_of (word ∷ words) = if is_bar word then [] ∷ parts_of words else onto_first word (parts_of words)

-- the words before the first bar
abbrev pub part_of : List (List ℕ) → List (List ℕ)
part_of [] = []
part_of (word ∷ words) = if is_bar word then [] else word ∷ part_of words

-- the words after the first bar
abbrev pub after_bar : List (List ℕ) → Option (List (List ℕ))
after_bar [] = None
after_bar (word ∷ words) = if is_bar word then Some words else after_bar words
