-- Words that hold tables.
use Rattle.std.specs.Prelude.{◌≡◌, ◌<◌, ℕ, List, None, slice_index_or}
use Rattle.word_tables.specs.declared.geometry.Geometry.{Geometry}
use Rattle.word_tables.specs.Words.{place, of_inode, of_file_page}
use Rattle.word_log.specs.Held as held
use Rattle.inode_table.specs.Holds.{HoldsSlot}
use Rattle.page_table.specs.Pages.{word_of}
use Rattle.nvm_model.specs.Numbered.{list_from}
use Rattle.file_journal.specs.Area.{file_area}
use Rattle.file_journal.specs.Tables.{Tables, unit_at}

-- the words of an inode
abbrev pub inode_at : Geometry → (ℕ → ℕ) → ℕ → List ℕ
inode_at geo word inode = list_from (λ k. word (place geo (of_inode inode k))) 0 8

-- each inode's words hold its slot, and each page's word its unit
pub record Holds (geo : Geometry) (word : ℕ → ℕ) (t : Tables) : Type 0 where
  pub slots : (inode : ℕ) → inode < 64 → HoldsSlot (inode_at geo word inode) (slice_index_or t.files inode None)
  pub pages : (inode page : ℕ) → inode < 64 → page < 256 → word (place geo (of_file_page inode page)) ≡ word_of (unit_at t inode page)

-- changes that the log takes, and that make words which hold the old tables hold the new ones
abbrev pub Turns : Geometry → List (ℕ × ℕ) → Tables → Tables → Type 0
Turns geo changes old new = held.Turns (file_area geo) (Holds geo) changes old new
