-- Bad lines that a span touches.
use Rattle.std.specs.Prelude.{◌&&◌, ℕ, Bool, true, false, nat_le, not, Option, Some, None}
use Rattle.nvm_base.specs.declared.units.Span.{Span}
use Rattle.line_device.specs.Medium.{Medium}
use Rattle.nvm_model.specs.Cell.{covers, lowest_touched}
use Rattle.page_lines.specs.declared.finding.BadLines.{BadLines}
use Rattle.page_lines.specs.declared.finding.BadLines.TheVariants.{All, From, NotCovered}

-- the line that is there is bad
abbrev pub is_bad_at : Medium → Option ℕ → Bool
is_bad_at m None = false
is_bad_at m (Some line) = m.is_bad line

-- a search is after line n, where it is bad
abbrev pub is_sought : BadLines → Span → ℕ → Bool
is_sought All span n = true
is_sought NotCovered span n = not (covers span.start span.len n)
is_sought (From first) span n = nat_le first n

-- the lowest line that the search finds
abbrev pub lowest_bad_in : BadLines → (ℕ → Option ℕ) → Medium → Span → Option ℕ
lowest_bad_in which place m span = lowest_touched (λ n. is_sought which span n && is_bad_at m (place n)) span.start span.len
