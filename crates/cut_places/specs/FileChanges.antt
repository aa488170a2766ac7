-- What a command may make of files and of mappings.
use Rattle.std.specs.Prelude.{◌/◌, ◌%◌, ℕ, List, length, if◌then◌else◌}
use Rattle.nvm_base.specs.declared.files.Kind.{Kind}
use Rattle.nvm_base.specs.declared.units.Span.{Span}
use Rattle.nvm_model.specs.Cell.{Cell, cell_byte, clear_cell, lose_cell, put_cell, weaken_cell, zero_cell}
use Rattle.nvm_model.specs.Files.{new_file, on_pages, with_name, with_pages}
use Rattle.nvm_model.specs.Listing.{change_file, file_name, put_file, rename_file, without_file}
use Rattle.nvm_model.specs.Numbered.{is_among}
use Rattle.nvm_model.specs.Page.{Page, at_line, change_line, discard, fill, put}
use Rattle.nvm_model.specs.Storage.{File}
use Rattle.nvm_model.specs.Touched.{persist_spans, persist_touched}
use Rattle.file_actions.specs.Rewriting.{byte_laid, durable_line, rewritten, touches_any_page}
use Rattle.sights.specs.MachineModel.Meaning.{FilesLeft}
use Rattle.sights.specs.MachineModel.Meaning.FilesLeft.{Unchanged, OldOrNew, StoredInPart, SyncedInPart}
use Rattle.cut_places.specs.declared.change.FilesChange.{FilesChange as HeldFilesChange}
use Rattle.cut_places.specs.declared.change.FilesChange.TheVariants as held_files
use Rattle.cut_places.specs.declared.change.LinesChange.{LinesChange as HeldLinesChange}
use Rattle.cut_places.specs.declared.change.LinesChange.TheVariants as held_lines

-- Of one file: bytes put at an offset; spans made durable; pages that ranges touch written anew; pages made holes, so many from one
-- on; or a line lost, made weak, or cleared.
pub data LinesChange : Type 0 where
  Puts : ℕ → List ℕ → LinesChange
  Persists : List Span → LinesChange
  Rewrites : List Span → List ℕ → LinesChange
  Zeroes : ℕ → ℕ → LinesChange
  Loses : ℕ → LinesChange
  Weakens : ℕ → LinesChange
  Clears : ℕ → LinesChange

-- nothing; a file is made, removed, renamed or resized; the lines of one change; or a mapping is made or ended
pub data FilesChange : Type 0 where
  Nothing : FilesChange
  Makes : List ℕ → ℕ → FilesChange
  Removes : List ℕ → FilesChange
  Renames : List ℕ → List ℕ → FilesChange
  Resizes : List ℕ → ℕ → FilesChange
  Changes : List ℕ → LinesChange → FilesChange
  Maps : List ℕ → Span → Kind → FilesChange
  Unmaps : ℕ → FilesChange

-- a change as it is kept
abbrev pub lines_of : HeldLinesChange → LinesChange
lines_of (held_lines.Puts at bytes) = Puts at bytes.now
lines_of (held_lines.Persists spans) = Persists spans.items
lines_of (held_lines.Rewrites ranges bytes) = Rewrites ranges.items bytes.now
lines_of (held_lines.Zeroes page count) = Zeroes page count
lines_of (held_lines.Loses line) = Loses line
lines_of (held_lines.Weakens line) = Weakens line
lines_of (held_lines.Clears line) = Clears line

abbrev pub change_of : HeldFilesChange → FilesChange
change_of held_files.Nothing = Nothing
change_of (held_files.Makes name pages) = Makes name pages
change_of (held_files.Removes name) = Removes name
change_of (held_files.Renames name to) = Renames name to
change_of (held_files.Resizes name pages) = Resizes name pages
change_of (held_files.Changes name lines) = Changes name (lines_of lines)
change_of (held_files.Maps stretch) = Maps stretch.name (record { start = stretch.start; len = stretch.len }) stretch.kind
change_of (held_files.Unmaps handle) = Unmaps handle

-- what it makes of the pages of the file
abbrev pub pages_changed : LinesChange → List Page → List Page
pages_changed (Puts at bytes) pages = put at bytes (fill at (length bytes) pages)
pages_changed (Persists spans) pages = persist_spans spans pages
pages_changed (Rewrites ranges bytes) pages = rewritten ranges bytes pages
pages_changed (Zeroes page count) pages = discard page count pages
pages_changed (Loses line) pages = change_line lose_cell line pages
pages_changed (Weakens line) pages = change_line weaken_cell line pages
pages_changed (Clears line) pages = change_line clear_cell line pages

-- and of line n as reads see it
abbrev pub line_changed : LinesChange → ℕ → Cell → Cell
line_changed (Puts at bytes) n cell = put_cell at bytes n cell
line_changed (Persists spans) n cell = persist_touched spans n cell
line_changed (Rewrites ranges bytes) n cell =
    if touches_any_page ranges (n / 64) then durable_line (λ at. byte_laid ranges bytes at (cell_byte cell (at % 64))) n else cell
line_changed (Zeroes page count) n cell = if is_among page count (n / 64) then zero_cell else cell
line_changed (Loses line) n cell = at_line lose_cell line n cell
line_changed (Weakens line) n cell = at_line weaken_cell line n cell
line_changed (Clears line) n cell = at_line clear_cell line n cell

-- what it makes of files
abbrev pub files_changed : FilesChange → List File → List File
files_changed Nothing files = files
files_changed (Makes name pages) files = put_file file_name (new_file name pages) files
files_changed (Removes name) files = without_file file_name name files
files_changed (Renames name to) files = rename_file file_name name (with_name to) files
files_changed (Resizes name pages) files = change_file file_name name (with_pages pages) files
files_changed (Changes name lines) files = change_file file_name name (on_pages (pages_changed lines)) files
files_changed (Maps name span kind) files = files
files_changed (Unmaps handle) files = files

-- how a cut inside it leaves them; a line is marked with no call of the device
abbrev pub lines_left : List ℕ → LinesChange → FilesLeft
lines_left name (Puts at bytes) = StoredInPart name at bytes
lines_left name (Persists spans) = SyncedInPart name spans
lines_left name (Rewrites ranges bytes) = OldOrNew
lines_left name (Zeroes page count) = OldOrNew
lines_left name (Loses line) = Unchanged
lines_left name (Weakens line) = Unchanged
lines_left name (Clears line) = OldOrNew

abbrev pub left_by : FilesChange → FilesLeft
left_by Nothing = Unchanged
left_by (Makes name pages) = OldOrNew
left_by (Removes name) = OldOrNew
left_by (Renames name to) = OldOrNew
left_by (Resizes name pages) = OldOrNew
left_by (Changes name lines) = lines_left name lines
left_by (Maps name span kind) = Unchanged
left_by (Unmaps handle) = Unchanged
