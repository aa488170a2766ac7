-- The tables of files: which inode is which file, and on which unit each of its pages is.
use Rattle.std.specs.Prelude.{◌≤◌, ◌+◌, ◌*◌, ℕ, Bool, List, Option, None, is_some, map, slice_index_or}
use Rattle.nvm_base.specs.declared.files.FileEntry.{FileEntry}
use Rattle.free_pool.specs.Beside as pool
use Rattle.inode_table.specs.Slots as names
use Rattle.inode_table.specs.Slots.{inode_of, pages_of}
use Rattle.page_table.specs.Pages as units
use Rattle.page_table.specs.Pages.{IsWithinCounts, used_pages}

-- for each inode the file that it is, and for each page, one inode's after the other's, its unit
pub record Tables : Type 0 where
  pub files : List (Option FileEntry)
  pub pages : List (Option ℕ)

-- each file has a name of its own, no unit is two pages', no inode has more pages than its count, and 16 units are left
pub record AreTables (size : ℕ) (t : Tables) : Type 0 where
  pub names : names.IsTable t.files
  pub table : units.IsTable (record { units = size; pages = t.pages })
  pub counted : IsWithinCounts (map pages_of t.files) t.pages
  pub room : used_pages t.pages + 16 ≤ size

-- no page is on the unit
abbrev pub IsVacant : List (Option ℕ) → ℕ → Type 0
IsVacant pages unit = pool.IsVacant pages unit

-- the unit of a page of an inode
abbrev pub unit_at : Tables → ℕ → ℕ → Option ℕ
unit_at t inode page = slice_index_or t.pages (256 * inode + page) None

-- whether there is a file of that name
abbrev pub has_file : Tables → List ℕ → Bool
has_file t name = is_some (inode_of name t.files)

-- the units of pages are taken
abbrev pub AreTaken : List (Option ℕ) → List Bool → Type 0
AreTaken pages free = pool.AreTaken pages free

-- the units that are free, or a page's; the others are held for pages to come
abbrev pub known_units : List (Option ℕ) → List Bool → ℕ
known_units pages free = pool.known_units pages free
