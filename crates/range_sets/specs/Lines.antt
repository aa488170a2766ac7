-- Ranges that are made of whole lines.
use Rattle.std.specs.Prelude.{◌+◌, ◌/◌, ◌%◌, ◌==◌, ◌&&◌, ℕ, Bool, List, nat_le}
use Rattle.std.specs.List.{list_all}
use Rattle.nvm_base.specs.declared.units.Span.{Span}

-- whether the range is made of whole lines of a device of so many
abbrev pub is_whole_lines : ℕ → Span → Bool
is_whole_lines count r = r.start % 64 == 0 && r.len % 64 == 0 && nat_le ((r.start + r.len) / 64) count

-- whether each range is
abbrev pub fits : List Span → ℕ → Bool
fits ranges count = list_all (is_whole_lines count) ranges
