-- When a look at the lines of a span is refused, and why.
use Rattle.std.specs.Prelude.{◌+◌, ◌*◌, ◌==◌, ℕ, nat_lt, Option, Some, None, if◌then◌else◌}
use Rattle.nvm_base.specs.declared.units.Span.{Span}
use Rattle.line_words.specs.Told.{Told}
use Rattle.line_words.specs.Told.Told.{Refuses, Starves}
use Rattle.nvm_model.specs.Blocks.{first_there}
use Rattle.marked_lines.specs.declared.fault.LinesFault.{LinesFault}
use Rattle.marked_lines.specs.declared.fault.LinesFault.TheVariants as fault

-- why it is refused
pub data SpanRefusal : Type 0 where
  Range : SpanRefusal
  Length : SpanRefusal

-- what a fault tells
abbrev pub lines_says : LinesFault → Told SpanRefusal
lines_says fault.Range = Refuses Range
lines_says fault.Length = Refuses Length
lines_says fault.Memory = Starves

-- a span goes past the end of so many pages, or has no byte
abbrev pub span_refusal : ℕ → Span → Option SpanRefusal
span_refusal size span =
    first_there (if nat_lt (4096 * size) (span.start + span.len) then Some Range else None) (if span.len == 0 then Some Length else None)
