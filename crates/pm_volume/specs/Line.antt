-- A line of the volume: what a load of it gives, and what stores and syncs of all of it leave.
use Rattle.std.specs.Prelude.{◌⊎◌, ◌*◌, ℕ, List, Option, Some, None, option_map, if◌then◌else◌}
use Rattle.line_device.specs.Word.{word_at}
use Rattle.nvm_model.specs.Cell.{Cell, cell_byte}
use Rattle.nvm_model.specs.Interrupted.{MayStore, MaySync}
use Rattle.nvm_model.specs.Numbered.{list_from}
use Rattle.nvm_model.specs.Page.{Page, fill, is_bad_cell, persist, put}

-- the bytes of a line as last stored, zeros where its page is absent
abbrev pub line_byte : Option Cell → ℕ → ℕ
line_byte None k = 0
line_byte (Some cell) k = cell_byte cell k

unfoldable pub line_bytes : Option Cell → List ℕ
line_bytes line = list_from (line_byte line) 0 64

-- what a load of the line gives; a bad line has no data
abbrev pub line_in : Option Cell → Option (List ℕ)
line_in line = if is_bad_cell line then None else Some (line_bytes line)

-- its first word
abbrev pub first_word : Option Cell → Option ℕ
first_word line = option_map (λ bytes. word_at bytes 0) (line_in line)

-- the pages once all of a line is stored, and once it is synced
abbrev pub stored_line : ℕ → List ℕ → List Page → List Page
stored_line n bytes pages = put (64 * n) bytes (fill (64 * n) 64 pages)

abbrev pub written_line : ℕ → List ℕ → List Page → List Page
written_line n bytes pages = persist (64 * n) 64 (stored_line n bytes pages)

-- what that may leave where it is interrupted
abbrev pub MayWrite : ℕ → List ℕ → List Page → List Page → Type 0
MayWrite n bytes old new = MayStore (64 * n) bytes old new ⊎ MaySync (64 * n) 64 (stored_line n bytes old) new
