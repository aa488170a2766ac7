-- What is reported of lines whose commands are refused, or are not.
use Rattle.std.specs.Prelude.{ℕ, suc, Bool, true, false, List, [], ◌∷◌, ◌++◌, codes, decimal, drop, take, Option, Some, None, if◌then◌else◌}
use Rattle.std.specs.Str.{bytes_eq}
use Rattle.script_text.specs.Script.{Input}
use Rattle.script_text.specs.Script.Input.{Skipped, Malformed, Overlong, Asked}
use Rattle.reply_text.specs.Answer.{Answer, answer_line}
use Rattle.cut_places.specs.MachineModel.Machine.{Machine}
use Rattle.cut_places.specs.MachineModel.Commands.{fate, refusal}
use Rattle.cut_places.specs.Outcomes.Stops.{led_to}

-- a reply's line without the word `refused`
abbrev pub reason_line : List ℕ → List ℕ
reason_line line = if bytes_eq (take 8 line) (codes "refused ") then drop 8 line else line

-- of line n, whose command is refused so, or is done, by whether a refusal of it is wanted
abbrev pub refusal_line : ℕ → Option Answer → Bool → List ℕ
refusal_line n (Some answer) false = codes "refused " ++ (decimal n ++ (32 ∷ reason_line (answer_line answer)))
refusal_line n (Some answer) true = []
refusal_line n None false = []
refusal_line n None true = codes "not refused " ++ (decimal n ++ 10 ∷ [])

-- of lines of which the first has this number, from that state on
abbrev pub refusals_from : ℕ → Machine → List Input → List Bool → List ℕ
refusals_from n h [] wanted = []
refusals_from n h (input ∷ inputs) [] = []
refusals_from n h (Skipped ∷ inputs) (is ∷ wanted) = refusals_from (suc n) h inputs wanted
refusals_from n h (Malformed ∷ inputs) (is ∷ wanted) = refusals_from (suc n) h inputs wanted
refusals_from n h (Overlong ∷ inputs) (is ∷ wanted) = refusals_from (suc n) h inputs wanted
refusals_from n h (Asked action ∷ inputs) (is ∷ wanted) =
    refusal_line n (refusal h action) is ++ refusals_from (suc n) (led_to h (fate h action)) inputs wanted
