-- Which lines of a file are bad.
use Rattle.std.specs.Prelude.{ℕ, List}
use Rattle.std.specs.List.{filter, range_with_len}
use Rattle.line_device.specs.Medium.{Medium}
use Rattle.page_lines.specs.Sought.{is_bad_at}
use Rattle.file_journal.specs.Object.{JournalState}
use Rattle.file_pages.specs.Object.{file_place}

-- the numbers of the bad ones of so many lines of a file, from the first on, rising
abbrev pub bad_from : JournalState → Medium → ℕ → ℕ → ℕ → List ℕ
bad_from s m inode first count = filter (λ n. is_bad_at m (file_place s inode n)) (range_with_len first count)
