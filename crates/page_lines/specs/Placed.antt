-- Lines of storage, each at a line of the device or nowhere.
use Rattle.std.specs.Prelude.{◌≡◌, ◌+◌, ◌<◌, ◌≤◌, ℕ, zero, suc, true, Option, Some, None, nat_lt, if◌then◌else◌}
use Rattle.nvm_base.specs.Units.{units_of}
use Rattle.nvm_base.specs.declared.units.Span.{Span}
use Rattle.nvm_model.specs.Cell.{touches}

-- each is on a device of so many lines, and no two are at the same line
pub record AreApart (place : ℕ → Option ℕ) (count : ℕ) : Type 0 where
  pub on : (n line : ℕ) → place n ≡ Some line → line < count
  pub once : (n other line : ℕ) → place n ≡ Some line → place other ≡ Some line → n ≡ other

-- so many lines, each at its own number
abbrev pub whole : ℕ → ℕ → Option ℕ
whole count n = if nat_lt n count then Some n else None

-- a line of the device that some line which the span touches is at
abbrev pub IsPlaced : (ℕ → Option ℕ) → ℕ → ℕ → ℕ → Type 0
IsPlaced place start len line = (n : ℕ) × (touches start len n ≡ true) × (place n ≡ Some line)

-- a line of the device that one of so many lines from the first on is at
abbrev pub IsPlacedAmong : (ℕ → Option ℕ) → ℕ → ℕ → ℕ → Type 0
IsPlacedAmong place first count line = (n : ℕ) × (first ≤ n) × (n < first + count) × (place n ≡ Some line)

-- one line, where it is there
abbrev pub one_there : Option ℕ → ℕ
one_there None = 0
one_there (Some line) = 1

-- how many of so many lines from the first on are there
abbrev pub there_among : (ℕ → Option ℕ) → ℕ → ℕ → ℕ
there_among place first zero = 0
there_among place first (suc k) = there_among place first k + one_there (place (first + k))

-- how many lines are there that the span touches
abbrev pub there_in : (ℕ → Option ℕ) → Span → ℕ
there_in place span = there_among place (units_of 64 span).start (units_of 64 span).len
