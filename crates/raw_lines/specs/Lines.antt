-- Lines, each bare or with its bytes.
use Rattle.std.specs.Prelude.{◌≡◌, ℕ, List, Option, Some, None, get_or}

-- there is such a line, and it has bytes
abbrev pub IsHeld : List (Option (List ℕ)) → ℕ → Type 0
IsHeld lines i = (bytes : List ℕ) × (get_or lines i None ≡ Some bytes)
