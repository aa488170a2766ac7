-- A test of a program's commands.
use Rattle.std.proofs.Common.{◌≡◌, Bool, true, ◌&&◌, List, [], ◌∷◌}
use Rattle.std.proofs.lemmas.Bool.{and_parts}
use Rattle.script_text.specs.Script.{Input}
use Rattle.script_text.specs.Script.Input.{Skipped, Malformed, Overlong, Asked}
use Rattle.outcomes.specs.Stops.{IsProgram, is_of_program}

abbrev pub are_of_program : List Input → Bool
are_of_program [] = true
are_of_program (Skipped ∷ inputs) = are_of_program inputs
are_of_program (Malformed ∷ inputs) = are_of_program inputs
are_of_program (Overlong ∷ inputs) = are_of_program inputs
are_of_program (Asked action ∷ inputs) = is_of_program action && are_of_program inputs

pub of_program : (inputs : List Input) → are_of_program inputs ≡ true → IsProgram inputs
of_program [] is = tt
of_program (Skipped ∷ inputs) is = of_program inputs is
of_program (Malformed ∷ inputs) is = of_program inputs is
of_program (Overlong ∷ inputs) is = of_program inputs is
of_program (Asked action ∷ inputs) is =
    let parts = and_parts (is_of_program action) (are_of_program inputs) is in
    (parts.0, of_program inputs parts.1)
