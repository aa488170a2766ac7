-- The lines of ranges as a medium of their own. Past its end it has all other lines of the device, each once, so that what
-- a clause says of the whole medium says what becomes of the others.
use Rattle.std.specs.Prelude.{◌≡◌, ◌+◌, ◌-◌, ◌*◌, ◌/◌, ◌%◌, ◌&&◌, ℕ, Bool, true, false, List, [], Option, Some, None, nat_lt, if◌then◌else◌}
use Rattle.std.specs.Option.{option_map}
use Rattle.nvm_base.specs.declared.units.Span.{Span}
use Rattle.line_device.specs.Medium.{Medium}
use Rattle.range_sets.specs.Lines.{fits}
use Rattle.range_sets.specs.Ranges.{total_of, address_of, offset_of, is_disjoint}

-- the ranges are a set of whole lines of a device of so many
pub record AreLent (ranges : List Span) (count : ℕ) : Type 0 where
  pub disjoint : is_disjoint ranges ≡ true
  pub fit : fits ranges count ≡ true

-- how many lines of a device of so many the ranges are made of, none where they are no set of whole lines
unfoldable pub shown_count : List Span → ℕ → ℕ
shown_count ranges count = if is_disjoint ranges && fits ranges count then total_of ranges / 64 else 0

-- this line of the device, where no range has it
abbrev pub beside : ℕ → Option ℕ → Option ℕ
beside line None = Some line
beside line (Some offset) = None

-- which line of the device is shown as line n: those of the ranges in their order, and then the others at their own numbers
unfoldable pub line_shown : List Span → ℕ → Option ℕ
line_shown ranges n =
    if nat_lt (64 * n) (total_of ranges)
    then option_map (λ address. address / 64) (address_of ranges (64 * n))
    else (let line = n - total_of ranges / 64 in beside line (offset_of ranges (64 * line)))

-- as which line this line of the device is shown, by the byte of the ranges that its first one is
abbrev pub shown_by : ℕ → ℕ → Option ℕ → ℕ
shown_by total line None = total / 64 + line
shown_by total line (Some offset) = offset / 64

-- as which line this line of the device is shown
unfoldable pub shown_as : List Span → ℕ → ℕ
shown_as ranges line = shown_by (total_of ranges) line (offset_of ranges (64 * line))

-- the mark of a line that is shown, and the history of its word w
abbrev pub mark_of : (ℕ → Bool) → Option ℕ → Bool
mark_of mark None = false
mark_of mark (Some line) = mark line

abbrev pub history_of : (ℕ → List ℕ) → ℕ → Option ℕ → List ℕ
history_of history w None = []
history_of history w (Some line) = history (8 * line + w)

-- the ranges' lines, and past the end the others
abbrev pub shown : List Span → Medium → Medium
shown ranges m = record {
  count = shown_count ranges m.count;
  is_bad = λ n. mark_of m.is_bad (line_shown ranges n);
  is_weak = λ n. mark_of m.is_weak (line_shown ranges n);
  history = λ p. history_of m.history (p % 8) (line_shown ranges (p / 8));
}
