-- Which words are no block map.
use Rattle.std.specs.Prelude.{◌+◌, ◌==◌, ◌&&◌, ◌||◌, ℕ, Bool, List, Option, length, nat_lt, nat_le, take, slice_index, position}
use Rattle.std.specs.List.{list_any, range_with_len}

-- the word at an index is too high, or names a unit that an earlier word names
abbrev pub is_wrong : List ℕ → ℕ → Bool
is_wrong words i =
    nat_lt (length words + 65) (slice_index words i) || (nat_le 2 (slice_index words i) && list_any (λ word. word == slice_index words i) (take i words))

-- the index of the first wrong word
abbrev pub first_wrong_entry : List ℕ → Option ℕ
first_wrong_entry words = position (is_wrong words) (range_with_len 0 (length words))
