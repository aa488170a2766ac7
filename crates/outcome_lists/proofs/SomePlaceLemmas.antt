-- A program has places of a cut.
use Rattle.std.proofs.Common.{◌<◌, ℕ, suc, List, [], ◌∷◌, length, arith}
use Rattle.script_text.specs.Script.{Input}
use Rattle.script_text.specs.Script.Input.{Skipped, Malformed, Overlong, Asked}
use Rattle.explorer.specs.MachineModel.Machine.{Machine}
use Rattle.outcome_lists.specs.Levels.{places, places_from}

-- the last one is behind all its lines
some_from : (n k : ℕ) (h : Machine) (inputs : List Input) → 0 < length (places_from n k h inputs)
some_from n k h [] = omega arith
some_from n k h (Skipped ∷ inputs) = some_from (suc n) k h inputs
some_from n k h (Malformed ∷ inputs) = some_from (suc n) k h inputs
some_from n k h (Overlong ∷ inputs) = some_from (suc n) k h inputs
some_from n k h (Asked action ∷ inputs) = omega arith

pub some_places : (h : Machine) (program : List Input) → 0 < length (places h program)
some_places h program = some_from 1 0 h program
