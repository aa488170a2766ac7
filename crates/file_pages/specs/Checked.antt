-- What a check that ended well found.
use Rattle.std.specs.Prelude.{◌≡◌, ◌+◌, ◌*◌, ◌≤◌, ℕ, true, false, Some}
use Rattle.nvm_base.specs.declared.units.Span.{Span}
use Rattle.line_device.specs.Medium.{Medium}
use Rattle.word_tables.specs.Layout.{meta_lines}
use Rattle.inode_table.specs.Slots.{pages_at}
use Rattle.page_table.specs.Pages.{used_pages}
use Rattle.nvm_model.specs.Cell.{covers, touches}
use Rattle.nvm_model.specs.Lines.{AreGood}
use Rattle.nvm_model.specs.Page.{absent_touched, touches_absent}
use Rattle.file_journal.specs.Object.{JournalState}
use Rattle.file_pages.specs.Object.{file_place, pages_there}

-- the span has bytes of the file, and no line of it that is there is bad
pub record IsReadable (s : JournalState) (m : Medium) (inode : ℕ) (span : Span) : Type 0 where
  pub some : 1 ≤ span.len
  pub within : span.start + span.len ≤ 4096 * pages_at s.tables.files inode
  pub good : (n line : ℕ) → touches span.start span.len n ≡ true → file_place s inode n ≡ Some line → m.is_bad line ≡ false

-- the span covers each bad line of it that is there
abbrev pub IsCovered : JournalState → Medium → ℕ → Span → Type 0
IsCovered s m inode span =
    (n line : ℕ) → touches span.start span.len n ≡ true → file_place s inode n ≡ Some line → m.is_bad line ≡ true → covers span.start span.len n ≡ true

-- the span has bytes of the file and covers its bad lines, there is room for its holes, and metadata can change where it has to
pub record IsStorable (s : JournalState) (m : Medium) (inode : ℕ) (span : Span) : Type 0 where
  pub some : 1 ≤ span.len
  pub within : span.start + span.len ≤ 4096 * pages_at s.tables.files inode
  pub room : used_pages s.tables.pages + absent_touched span.start span.len (pages_there s inode) + 16 ≤ s.geo.fpages
  pub good : touches_absent span.start span.len (pages_there s inode) ≡ true → AreGood m (meta_lines s.geo)
  pub covered : IsCovered s m inode span
