-- What a workload has still to give.
use Rattle.std.specs.Prelude.{◌≡◌, ℕ, List, [], ◌∷◌, ◌++◌, Option, Some, None, codes}
use Rattle.nvm_base.specs.Stock.{Stock}
use Rattle.workload.specs.declared.workload.Due.{Due}
use Rattle.workload.specs.declared.workload.Due.TheVariants.{First, Second, Mapping, Restart, Round}
use Rattle.workload.specs.Lines.{map_line, opening, restart_line, rounds}

-- the lines that come before the next round
abbrev pub lines_due : Due → List (List ℕ)
lines_due First = opening
lines_due Second = codes "create f1 16" ∷ map_line ∷ []
lines_due Mapping = map_line ∷ []
lines_due (Restart b) = restart_line b ∷ map_line ∷ []
lines_due Round = []

-- a round has that first line, and then what is due
abbrev pub StartsWith : List ℕ → Due → List (List ℕ) → Type 0
StartsWith line due round = round ≡ line ∷ lines_due due

-- the lines that are left: these, and so many rounds from that state on
abbrev pub lines_left : Due → ℕ → ℕ → List (List ℕ)
lines_left due x count = lines_due due ++ rounds x count

-- the first of the lines was given, or there was none
abbrev pub Gives : Option (Stock ℕ) → List (List ℕ) → List (List ℕ) → Type 0
Gives None old new = (old ≡ []) × (new ≡ [])
Gives (Some line) old new = old ≡ line.items ∷ new
