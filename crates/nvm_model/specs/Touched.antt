-- Lines of pages that one or more of several spans touch.
use Rattle.std.specs.Prelude.{◌*◌, ◌-◌, ◌&&◌, ℕ, Bool, List, length, Option, if◌then◌else◌}
use Rattle.std.specs.List.{filter, find, list_any, range_with_len}
use Rattle.nvm_base.specs.declared.units.Span.{Span}
use Rattle.nvm_model.specs.Cell.{Cell, flush_cell, touches}
use Rattle.nvm_model.specs.Numbered.{map_from}
use Rattle.nvm_model.specs.Page.{Page, cell_of, is_bad_cell, map_lines}

-- some span touches line n
abbrev pub touches_any : List Span → ℕ → Bool
touches_any spans n = list_any (λ (span : Span). touches span.start span.len n) spans

-- the line is there and bad, and some span touches it
abbrev pub is_bad_touched : List Span → List Page → ℕ → Bool
is_bad_touched spans pages n = touches_any spans n && is_bad_cell (cell_of pages n)

-- the numbers of those lines, rising
unfoldable pub bad_touched : List Span → List Page → List ℕ
bad_touched spans pages = filter (is_bad_touched spans pages) (range_with_len 0 (64 * length pages))

-- of those from a line on: all, and the lowest
unfoldable pub bad_touched_from : List Span → List Page → ℕ → List ℕ
bad_touched_from spans pages from = filter (is_bad_touched spans pages) (range_with_len from (64 * length pages - from))

unfoldable pub next_bad_touched : List Span → List Page → ℕ → Option ℕ
next_bad_touched spans pages from = find (is_bad_touched spans pages) (range_with_len from (64 * length pages - from))

-- line n once all that the spans touch is made durable
abbrev pub persist_touched : List Span → ℕ → Cell → Cell
persist_touched spans n cell = if touches_any spans n then flush_cell cell else cell

unfoldable pub persist_spans : List Span → List Page → List Page
persist_spans spans pages = map_from (map_lines (persist_touched spans)) 0 pages
