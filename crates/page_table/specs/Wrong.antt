-- Which words are no page table, where inodes have so many pages.
use Rattle.std.specs.Prelude.{◌+◌, ◌/◌, ◌%◌, ◌==◌, ◌||◌, ℕ, Bool, false, List, Option, Some, None, length, map, nat_le, nat_lt, not, position, slice_index, slice_index_or, take}
use Rattle.std.specs.List.{list_any, range_with_len}
use Rattle.page_table.specs.Pages.{unit_of, used_pages}

-- whether the inode of that entry has the page
abbrev pub has_page : List ℕ → ℕ → Bool
has_page counts entry = nat_lt (entry % 256) (slice_index counts (entry / 256))

-- whether a page is on a unit
abbrev pub is_on : ℕ → Option ℕ → Bool
is_on unit None = false
is_on unit (Some other) = other == unit

-- whether a page is wrong after those before it: there is no such page or unit, the unit is that of another, or only 16 are left
abbrev pub is_wrong_after : ℕ → List (Option ℕ) → Bool → Option ℕ → Bool
is_wrong_after units before there None = false
is_wrong_after units before there (Some unit) =
    not there || nat_le units unit || list_any (is_on unit) before || nat_le units (used_pages before + 16)

-- whether the page of an entry is
abbrev pub is_wrong : ℕ → List ℕ → List (Option ℕ) → ℕ → Bool
is_wrong units counts pages entry = is_wrong_after units (take entry pages) (has_page counts entry) (slice_index_or pages entry None)

-- the index of the first wrong word
unfoldable pub first_wrong_entry : ℕ → List ℕ → List ℕ → Option ℕ
first_wrong_entry units counts words = position (is_wrong units counts (map unit_of words)) (range_with_len 0 (length words))
