-- What stores and syncs may spend of a device's calls.
use Rattle.std.specs.Prelude.{◌+◌, ◌*◌, ℕ, Bool, true, List, Option, Some, None, if◌then◌else◌}
use Rattle.nvm_base.specs.Units.{units_of}
use Rattle.word_tables.specs.declared.geometry.Geometry.{Geometry}
use Rattle.word_log.specs.Changes.{commit_calls, commit_persists}
use Rattle.nvm_model.specs.Page.{touches_absent}
use Rattle.page_lines.specs.Placed.{there_in}
use Rattle.pm_volume.specs.Object.{volume_place}

-- how many lines, and how many pages, a span touches
abbrev pub lines_touched : ℕ → ℕ → ℕ
lines_touched start len = (units_of 64 (record { start = start; len = len })).len

abbrev pub pages_touched : ℕ → ℕ → ℕ
pages_touched start len = (units_of 4096 (record { start = start; len = len })).len

-- One call for each line of the pages that it fills, and a commit of their words.
abbrev pub fill_calls : List Bool → ℕ → ℕ → ℕ
fill_calls there start len = if touches_absent start len there then 64 * pages_touched start len + commit_calls (pages_touched start len) else 0

-- Two calls a line besides. Where it fills no page it makes nothing durable.
abbrev pub store_calls : List Bool → ℕ → ℕ → ℕ
store_calls there start len = 2 * lines_touched start len + fill_calls there start len

abbrev pub store_persists : List Bool → ℕ → ℕ → ℕ
store_persists there start len = if touches_absent start len there then commit_persists (pages_touched start len) else 0

-- A sync makes each line once durable that it touches and whose page is there.
abbrev pub lines_there : Geometry → List Bool → ℕ → ℕ → ℕ
lines_there geo there start len = there_in (volume_place geo there true) (record { start = start; len = len })

-- by addresses it may find none
abbrev pub lines_there_at : Geometry → List Bool → Option ℕ → ℕ → ℕ
lines_there_at geo there None len = 0
lines_there_at geo there (Some start) len = lines_there geo there start len
