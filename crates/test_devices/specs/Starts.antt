-- Restarts as a list of lines tells them.
use Rattle.std.specs.Prelude.{◌/◌, ◌%◌, ℕ, Bool, true, false, List, Option, Some, None, length, slice_get}
use Rattle.line_device.specs.Word.{word_at}
use Rattle.line_device.specs.Panel as panel
use Rattle.line_device.specs.declared.line.LineState.{LineState}
use Rattle.line_device.specs.declared.line.LineState.TheVariants.{Healthy, Weak, Bad}
use Rattle.test_devices.specs.declared.start.Start.{Start}

abbrev pub is_bad_line : Option LineState → Bool
is_bad_line None = false
is_bad_line (Some (Healthy bytes)) = false
is_bad_line (Some (Weak bytes)) = false
is_bad_line (Some Bad) = true

abbrev pub is_weak_line : Option LineState → Bool
is_weak_line None = false
is_weak_line (Some (Healthy bytes)) = false
is_weak_line (Some (Weak bytes)) = true
is_weak_line (Some Bad) = false

-- word w of the line, 0 where it has none
abbrev pub word_of_line : Option LineState → ℕ → ℕ
word_of_line None w = 0
word_of_line (Some (Healthy bytes)) w = word_at bytes w
word_of_line (Some (Weak bytes)) w = word_at bytes w
word_of_line (Some Bad) w = 0

abbrev pub image_of_lines : ℕ → List LineState → panel.Image
image_of_lines unit lines = record {
  count = length lines;
  is_bad = λ n. is_bad_line (slice_get lines n);
  is_weak = λ n. is_weak_line (slice_get lines n);
  unit = unit;
  word = λ p. word_of_line (slice_get lines (p / 8)) (p % 8);
}

-- the restart that a record tells
abbrev pub told_start : Start → panel.Start
told_start s = record { choice = s.choice; image = image_of_lines s.unit s.lines.items }
