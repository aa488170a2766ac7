-- On which unit each page is, and what makes a table of them.
use Rattle.std.specs.Prelude.{◌≡◌, ◌<◌, ◌≤◌, ◌+◌, ◌/◌, ◌%◌, ℕ, zero, suc, List, Option, Some, None, length, slice_index}
use Rattle.free_pool.specs.Beside as pool

-- How many units there are, and for each page, one inode's after the other's, the unit that it is on. A hole is on none.
pub record TableState : Type 0 where
  pub units : ℕ
  pub pages : List (Option ℕ)

-- the unit that a word names
abbrev pub unit_of : ℕ → Option ℕ
unit_of zero = None
unit_of (suc unit) = Some unit

-- the word that names a unit, or none
abbrev pub word_of : Option ℕ → ℕ
word_of None = 0
word_of (Some unit) = unit + 1

-- how many units a page uses
abbrev pub used_by : Option ℕ → ℕ
used_by page = pool.used_by page

-- how many pages are no holes
abbrev pub used_pages : List (Option ℕ) → ℕ
used_pages pages = pool.used_units pages

-- the page of an entry is on a unit
abbrev pub IsOn : List (Option ℕ) → ℕ → ℕ → Type 0
IsOn pages entry unit = pool.IsOn pages entry unit

-- 256 pages for each of 64 inodes; each that is no hole has a unit of its own
pub record IsTable (table : TableState) : Type 0 where
  pub few : table.units ≤ 1024
  pub all : length table.pages ≡ 16384
  pub within : (entry unit : ℕ) → IsOn table.pages entry unit → unit < table.units
  pub apart : (a b unit : ℕ) → IsOn table.pages a unit → IsOn table.pages b unit → a ≡ b

-- no inode has a unit at or past its count of pages
abbrev pub IsWithinCounts : List ℕ → List (Option ℕ) → Type 0
IsWithinCounts counts pages = (entry unit : ℕ) → IsOn pages entry unit → entry % 256 < slice_index counts (entry / 256)

-- a page may be on a unit that is one of the table's, and no other page's; or a hole
abbrev pub MayTake : TableState → ℕ → Option ℕ → Type 0
MayTake table entry None = Unit {0}
MayTake table entry (Some unit) = (unit < table.units) × ((other : ℕ) → IsOn table.pages other unit → other ≡ entry)

-- a page's unit is below a limit
abbrev pub IsBelow : ℕ → Option ℕ → Type 0
IsBelow limit None = Unit {0}
IsBelow limit (Some unit) = unit < limit
