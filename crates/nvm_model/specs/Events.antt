-- Media errors of files: the events that a mount finds, and the lines that may become ones.
use Rattle.std.specs.Prelude.{◌*◌, ℕ, Bool, true, false, List, length, map, count_by, sum_by}
use Rattle.std.specs.List.{filter, flat_map, range_with_len}
use Rattle.nvm_model.specs.Cell.{Cell}
use Rattle.nvm_model.specs.Cell.Cell.{Bad, Kept}
use Rattle.nvm_model.specs.Page.{Page, cell_of, is_bad_cell}
use Rattle.nvm_model.specs.Page.Page.{Absent, Present}
use Rattle.nvm_model.specs.Storage.{Event, File}

-- the numbers of the lines that are there and bad, rising
unfoldable pub bad_numbers : List Page → List ℕ
bad_numbers pages = filter (λ n. is_bad_cell (cell_of pages n)) (range_with_len 0 (64 * length pages))

-- at which bytes lines begin
abbrev pub offsets_of : List ℕ → List ℕ
offsets_of lines = map (λ n. 64 * n) lines

-- the event of a line of a file that a mount finds bad
abbrev pub found_event : List ℕ → ℕ → Event
found_event name offset = record { file = name; offset = offset; len = 64; mapped = false; live = false }

-- those of a file, in order of offset
abbrev pub found_events : File → List Event
found_events file = map (found_event file.name) (offsets_of (bad_numbers file.pages))

-- those of all files, which are in order of name
unfoldable pub restart_events : List File → List Event
restart_events files = flat_map found_events files

-- the line is weak; a bad one isn't
abbrev pub is_weak_cell : Cell → Bool
is_weak_cell Bad = false
is_weak_cell (Kept weak words) = weak

-- how many lines of a page, of pages and of files pass a test
abbrev pub count_in_page : (Cell → Bool) → Page → ℕ
count_in_page passes Absent = 0
count_in_page passes (Present cells) = count_by passes cells

abbrev pub count_in_pages : (Cell → Bool) → List Page → ℕ
count_in_pages passes pages = sum_by (count_in_page passes) pages

abbrev pub count_in_files : (Cell → Bool) → List File → ℕ
count_in_files passes files = sum_by (λ (file : File). count_in_pages passes file.pages) files

-- how many lines of files are weak: as many events as syncs may make
abbrev pub weak_file_lines : List File → ℕ
weak_file_lines files = count_in_files is_weak_cell files
