-- Counts of 64 bits, which stand still at their last value.
use Rattle.std.specs.Prelude.{ℕ, ◌+◌, ◌≤◌, min}

-- the count after one more
abbrev pub raised : ℕ → ℕ
raised count = min (count + 1) 18446744073709551615

-- the count went up, or stands at its last value
abbrev pub Rose : ℕ → ℕ → Type 0
Rose old new = raised old ≤ new
