-- Numbers of any size as decimal digits. `decimal` of std ends at 64 digits.
use Rattle.std.specs.Prelude.{◌+◌, ◌*◌, ◌/◌, ◌%◌, ◌<◌, ◌++◌, ℕ, zero, suc, true, false, List, [], ◌∷◌, nat_lt}
use Rattle.std.specs.List.{AllByRecursion}

-- the number of digits, the least first
abbrev pub value_of : List ℕ → ℕ
value_of [] = 0
value_of (d ∷ ds) = d + 10 * value_of ds

abbrev pub AreDigits : List ℕ → Type 0
AreDigits ds = AllByRecursion (λ d. d < 10) ds

-- a number of fewer digits than that, as text
abbrev pub numeral_in : ℕ → ℕ → List ℕ
numeral_in zero n = []
numeral_in (suc k) n = elim (nat_lt n 10) [ true ↦ (48 + n) ∷ [] | false ↦ numeral_in k (n / 10) ++ (48 + n % 10) ∷ [] ]

-- any number as text
unfoldable pub numeral : ℕ → List ℕ
numeral n = numeral_in (n + 1) n
