-- What the checks of an atomic write found.
use Rattle.std.specs.Prelude.{◌≡◌, ◌+◌, ◌*◌, ◌/◌, ◌≤◌, ℕ, false, true, All, List, Some}
use Rattle.nvm_base.specs.declared.units.Span.{Span}
use Rattle.line_device.specs.Medium.{Medium}
use Rattle.word_tables.specs.Layout.{meta_lines}
use Rattle.inode_table.specs.Slots.{pages_at}
use Rattle.page_table.specs.Pages.{used_pages}
use Rattle.nvm_model.specs.Lines.{AreGood}
use Rattle.range_sets.specs.Ranges.{is_disjoint}
use Rattle.file_journal.specs.Object.{JournalState}
use Rattle.file_pages.specs.Object.{file_place, pages_there}
use Rattle.file_actions.specs.Refusals.{holes_touched}
use Rattle.file_actions.specs.Rewriting.{covers_any, pages_touched, touches_any_page}

-- a range of so many pages, with a byte or more
pub record IsWithin (pages : ℕ) (range : Span) : Type 0 where
  pub some : 1 ≤ range.len
  pub within : range.start + range.len ≤ 4096 * pages

-- ranges that can be written together, of a file of so many pages
pub record AreTogether (pages : ℕ) (ranges : List Span) : Type 0 where
  pub within : All (IsWithin pages) ranges
  pub few : pages_touched ranges pages ≤ 16
  pub disjoint : is_disjoint ranges ≡ true

-- none of the lines is bad whose bytes are kept, as last stored
abbrev pub AreKept : JournalState → Medium → ℕ → List Span → Type 0
AreKept s m inode ranges =
    (n line : ℕ) → touches_any_page ranges (n / 64) ≡ true → covers_any ranges n ≡ false → file_place s inode n ≡ Some line → m.is_bad line ≡ false

-- they can be, there is room for the holes that they touch, metadata can change, and the bytes that are kept can be read
pub record AreWritable (s : JournalState) (m : Medium) (inode : ℕ) (ranges : List Span) : Type 0 where
  pub together : AreTogether (pages_at s.tables.files inode) ranges
  pub room : used_pages s.tables.pages + holes_touched ranges (pages_there s inode) + 16 ≤ s.geo.fpages
  pub good : AreGood m (meta_lines s.geo)
  pub kept : AreKept s m inode ranges
