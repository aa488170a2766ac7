-- Devices and images: the lines that an image leaves on a device, and the image of the lines that a device has.
use Rattle.std.specs.Prelude.{◌≡◌, ◌/◌, ◌%◌, ◌<◌, ℕ, Bool, true, false, List, [], ◌∷◌, length, Option, Some, None, slice_get, Result, Ok, Err}
use Rattle.line_device.specs.Word.{word_at}
use Rattle.line_device.specs.Medium.{Medium, IsHealthy, Shows, last_image}
use Rattle.line_device.specs.Panel.{Image, Outcome}
use Rattle.line_device.specs.Panel.Outcome.{went, failed, lost}
use Rattle.line_device.specs.declared.line.LineState.{LineState}
use Rattle.line_device.specs.declared.line.LineState.TheVariants.{Healthy, Weak, Bad}
use Rattle.image_file.specs.declared.fault.ExtractFault.{ExtractFault}
use Rattle.image_file.specs.declared.fault.ExtractFault.TheVariants as extracting

-- a line is told to be bad; past the end none is
abbrev pub is_told_bad : Option LineState → Bool
is_told_bad None = false
is_told_bad (Some (Healthy bytes)) = false
is_told_bad (Some (Weak bytes)) = false
is_told_bad (Some Bad) = true

-- a line is told to be weak
abbrev pub is_told_weak : Option LineState → Bool
is_told_weak None = false
is_told_weak (Some (Healthy bytes)) = false
is_told_weak (Some (Weak bytes)) = true
is_told_weak (Some Bad) = false

-- word w of a line, 0 in a bad line and past the end
abbrev pub told_word : Option LineState → ℕ → ℕ
told_word None w = 0
told_word (Some (Healthy bytes)) w = word_at bytes w
told_word (Some (Weak bytes)) w = word_at bytes w
told_word (Some Bad) w = 0

-- the values of word w of a line: one, but none in a bad line and past the end
abbrev pub told_values : Option LineState → ℕ → List ℕ
told_values None w = []
told_values (Some (Healthy bytes)) w = word_at bytes w ∷ []
told_values (Some (Weak bytes)) w = word_at bytes w ∷ []
told_values (Some Bad) w = []

-- these lines as a device of this survival unit shows them at a restart
abbrev pub image_of : ℕ → List LineState → Image
image_of unit lines = record {
  count = length lines;
  is_bad = λ n. is_told_bad (slice_get lines n);
  is_weak = λ n. is_told_weak (slice_get lines n);
  unit = unit;
  word = λ p. told_word (slice_get lines (p / 8)) (p % 8);
}

-- a device that has just these lines, all durable
abbrev pub medium_of : List LineState → Medium
medium_of lines = record {
  count = length lines;
  is_bad = λ n. is_told_bad (slice_get lines n);
  is_weak = λ n. is_told_weak (slice_get lines n);
  history = λ p. told_values (slice_get lines (p / 8)) (p % 8);
}

-- these are all lines of the device, each as it was last stored
pub record IsLastImage (m : Medium) (lines : List LineState) : Type 0 where
  pub count : length lines ≡ m.count
  pub shows : (n : ℕ) (line : LineState) → slice_get lines n ≡ Some line → Shows m n line

-- the marks of the lines, and of each healthy word the last value
pub record DepictsLast (m : Medium) (image : Image) : Type 0 where
  pub count : image.count ≡ m.count
  pub bad : (n : ℕ) → n < m.count → image.is_bad n ≡ m.is_bad n
  pub weak : (n : ℕ) → n < m.count → image.is_weak n ≡ m.is_weak n
  pub words : (p : ℕ) → IsHealthy m (p / 8) → image.word p ≡ last_image m p

-- what a fault says of the device: where memory ran out, it answered
abbrev pub extract_fault_outcome : ExtractFault → Outcome
extract_fault_outcome extracting.Failed = failed
extract_fault_outcome extracting.PowerLost = lost
extract_fault_outcome extracting.Memory = went

-- how reading a device out ended
abbrev pub extract_outcome : {T : Type 0} → Result T ExtractFault → Outcome
extract_outcome (Ok x) = went
extract_outcome (Err fault) = extract_fault_outcome fault
