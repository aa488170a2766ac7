-- The bytes of storage as last stored.
use Rattle.std.specs.Prelude.{ℕ, ◌+◌, ◌-◌, ◌*◌, ◌/◌, ◌%◌, List, Option, Some, None, min, max}
use Rattle.std.specs.Int.{byte_at}
use Rattle.nvm_base.specs.declared.units.Span.{Span}
use Rattle.line_device.specs.Medium.{Medium}
use Rattle.line_device.specs.Word.{word_at}
use Rattle.nvm_model.specs.Lines.{shown_byte}

-- byte i, of the line of the device that its line is at; 0 where it is nowhere
abbrev pub byte_on : Medium → ℕ → Option ℕ → ℕ
byte_on m i None = 0
byte_on m i (Some line) = shown_byte m (64 * line + i % 64)

abbrev pub placed_byte : (ℕ → Option ℕ) → Medium → ℕ → ℕ
placed_byte place m i = byte_on m i (place (i / 64))

-- bytes of a line, word by word
abbrev pub byte_in_line : List ℕ → ℕ → ℕ
byte_in_line bytes i = byte_at (i % 8) (word_at bytes (i / 8))

-- the bytes of a span that lie in line n
abbrev pub part_of : Span → ℕ → Span
part_of span n =
    let start = max span.start (64 * n) in record { start = start; len = min (span.start + span.len) (64 * n + 64) - start }

-- how many bytes of a span lie before line n
abbrev pub before_line : Span → ℕ → ℕ
before_line span n = min (span.start + span.len) (max span.start (64 * n)) - span.start
