-- What words are read as.
use Rattle.std.specs.Prelude.{◌≡◌, ◌<◌, ◌≤◌, ◌+◌, ℕ, Bool, List, None, length, map}
use Rattle.free_pool.specs.Beside.{AreTaken, known_units}
use Rattle.free_pool.specs.Units.{IsFree}
use Rattle.page_table.specs.Pages.{IsOn, IsTable, IsWithinCounts, TableState, unit_of, used_pages, word_of}
use Rattle.page_table.specs.Wrong.{first_wrong_entry}

-- The table that words stand for, where inodes have so many pages: none of them is wrong, and 16 units or more are left.
pub record Reads (units : ℕ) (counts words : List ℕ) (table : TableState) : Type 0 where
  pub is : table ≡ record { units = units; pages = map unit_of words }
  pub written : map word_of table.pages ≡ words
  pub right : first_wrong_entry units counts words ≡ None
  pub is_table : IsTable table
  pub counted : IsWithinCounts counts table.pages
  pub room : used_pages table.pages + 16 ≤ table.units

-- The pool has the units of a table, and those that no page is on are free.
pub record HasFree (table : TableState) (free : List Bool) : Type 0 where
  pub all : length free ≡ table.units
  pub taken : AreTaken table.pages free
  pub left : (unit : ℕ) → unit < table.units → ((entry : ℕ) → ¬ IsOn table.pages entry unit) → IsFree free unit
  pub count : known_units table.pages free ≡ table.units
