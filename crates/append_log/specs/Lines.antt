-- What lines of the volume hold: the count of records in line 0, and a record in each line after it.
use Rattle.std.specs.Prelude.{ℕ, Bool, List, Option, Some, None, option_and_then, nat_le, nat_lt, drop, take, slice_index, length, ◌+◌, ◌*◌, if◌then◌else◌}
use Rattle.nvm_model.specs.Cell.{Cell}
use Rattle.nvm_model.specs.Numbered.{list_from}
use Rattle.nvm_model.specs.Page.{Page, cell_of}
use Rattle.pm_volume.specs.Costs.{lines_touched, store_calls, store_persists}
use Rattle.pm_volume.specs.Line.{first_word, line_in}

-- a record in the bytes of its line: its length in the first one, and then as many bytes
abbrev pub record_of : List ℕ → Option (List ℕ)
record_of bytes = if nat_le (slice_index bytes 0) 48 then Some (take (slice_index bytes 0) (drop 1 bytes)) else None

-- how many records there are, by line 0
abbrev pub count_in : Option Cell → Option ℕ
count_in = first_word

-- the record of a line, None where the line is bad or has a wrong length
abbrev pub entry_in : Option Cell → Option (List ℕ)
entry_in line = option_and_then record_of (line_in line)

-- so many records, where as many lines come after line 0
abbrev pub entries : List Page → ℕ → Option (List (Option (List ℕ)))
entries pages count = if nat_lt count (64 * length pages) then Some (list_from (λ n. entry_in (cell_of pages n)) 1 count) else None

-- The log of these pages: its records in order, None for one that can't be read. There is no log where line 0 has no count.
unfoldable pub log_of : List Page → Option (List (Option (List ℕ)))
log_of pages = option_and_then (entries pages) (count_in (cell_of pages 0))

-- what a line that is stored and then synced may spend of a device's calls
abbrev pub write_calls : List Bool → ℕ → ℕ
write_calls there n = store_calls there (64 * n) 64 + lines_touched (64 * n) 64

abbrev pub write_persists : List Bool → ℕ → ℕ
write_persists there n = store_persists there (64 * n) 64 + lines_touched (64 * n) 64
