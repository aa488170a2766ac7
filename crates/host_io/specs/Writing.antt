-- Writing all of some bytes.
use Rattle.std.specs.Prelude.{ℕ, ◌≤◌, List, length, take, Option, Result, MatchResult}
use Rattle.std.specs.Io.KnownBytes.{Appends}

-- some of the bytes were appended, from the front
pub record AppendsSome (bytes : List ℕ) (old new : Option (List ℕ)) : Type 0 where
  pub count : ℕ
  pub within : count ≤ length bytes
  pub part : Appends old new (take count bytes)

-- all of them at Ok, some at Err
abbrev pub WritesAll : {E : Type 0} → List ℕ → Result (Unit {0}) E → Option (List ℕ) → Option (List ℕ) → Type 0
WritesAll bytes result old new = MatchResult result (λ _. Appends old new bytes) (λ _. AppendsSome bytes old new)
