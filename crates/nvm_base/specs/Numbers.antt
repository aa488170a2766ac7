-- Numbers in text.
use Rattle.std.specs.Prelude.{ℕ, ◌+◌, ◌-◌, ◌*◌, ◌^◌, true, false, ◌&&◌, nat_lt, nat_le, List, [], ◌∷◌, length, Option, Some, None, option_and_then, if◌then◌else◌}
use Rattle.std.specs.Char.{is_ascii_digit}

-- the number that digits make after those of `value`; None where a byte is no digit
abbrev pub digits_after : ℕ → List ℕ → Option ℕ
digits_after value [] = Some value
digits_after value (c ∷ cs) =
    elim (is_ascii_digit c) [ true ↦ digits_after (10 * value + (c - 48)) cs | false ↦ None ]

-- the number of one to ten digits, up to 4,294,967,295
unfoldable pub number_of : List ℕ → Option ℕ
number_of text =
    elim (nat_le 1 (length text) && nat_le (length text) 10) [
      | true ↦ option_and_then (λ n. if nat_lt n (2 ^ 32) then Some n else None) (digits_after 0 text)
      | false ↦ None
    ]
