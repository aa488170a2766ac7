-- What calls may spend of a device's calls.
use Rattle.std.specs.Prelude.{◌+◌, ◌*◌, ℕ, Bool, List, if◌then◌else◌}
use Rattle.nvm_base.specs.Units.{units_of}
use Rattle.word_log.specs.Changes.{commit_calls, commit_persists}
use Rattle.nvm_model.specs.Page.{absent_touched, touches_absent}
use Rattle.page_lines.specs.Placed.{there_in}
use Rattle.file_journal.specs.Object.{JournalState}
use Rattle.file_pages.specs.Object.{file_place, pages_there}

-- how many lines of a file are there that a span touches
abbrev pub lines_there : JournalState → ℕ → ℕ → ℕ → ℕ
lines_there s inode start len = there_in (file_place s inode) (record { start = start; len = len })

-- To fill holes among pages, which are there or not, takes a call for each of their lines, and one commit. Where there are none
-- it takes nothing.
abbrev pub filling_calls : List Bool → ℕ → ℕ → ℕ
filling_calls there start len =
    if touches_absent start len there then 64 * absent_touched start len there + commit_calls (5 + absent_touched start len there) else 0

abbrev pub filling_persists : List Bool → ℕ → ℕ → ℕ
filling_persists there start len = if touches_absent start len there then commit_persists (5 + absent_touched start len there) else 0

-- A store takes two more a line, and makes nothing else durable.
abbrev pub storing_calls : List Bool → ℕ → ℕ → ℕ
storing_calls there start len = 2 * (units_of 64 (record { start = start; len = len })).len + filling_calls there start len

-- the same of a file's pages
abbrev pub fill_calls : JournalState → ℕ → ℕ → ℕ → ℕ
fill_calls s inode start len = filling_calls (pages_there s inode) start len

abbrev pub fill_persists : JournalState → ℕ → ℕ → ℕ → ℕ
fill_persists s inode start len = filling_persists (pages_there s inode) start len

abbrev pub store_calls : JournalState → ℕ → ℕ → ℕ → ℕ
store_calls s inode start len = storing_calls (pages_there s inode) start len
