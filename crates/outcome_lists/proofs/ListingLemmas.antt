-- The text of a list, from what is walked.
use Rattle.std.proofs.Common.{◌≡◌, ◌++◌, List, [], ◌∷◌, None, length, ap, ◌∙◌}
use Rattle.std.specs.Prelude.{codes, flat_map, nat_lt, if◌then◌else◌}
use Rattle.outcome_walk.specs.Numbers.{numeral}
use Rattle.outcome_walk.specs.Walking.{Trail}
use Rattle.script_text.specs.Script.{Input}
use Rattle.explorer.specs.MachineModel.Machine.{Machine}
use Rattle.explorer.specs.Outcomes.Finds.{IsReady}
use Rattle.explorer.specs.Outcomes.Stops.{IsProgram}
use Rattle.explorer.specs.AskedReads.declared.read.Read.{Read}
use Rattle.explorer.specs.CutPlaces.Places.{cut_places}
use Rattle.explorer.specs.ValueTables.Listed.{IsSound}
use Rattle.outcome_lists.specs.declared.place.Place.{Place}
use Rattle.outcome_lists.specs.Choices.{states}
use Rattle.outcome_lists.specs.Levels.{levels, places}
use Rattle.outcome_lists.specs.Lists.{list_text, outcome_line}
use Rattle.outcome_lists.specs.Outcomes.{Outcome, outcomes_of, place_of}
use Rattle.outcome_lists.specs.Parts.{AreInOrder, AreParts}
use Rattle.outcome_lists.specs.Together.{EachAtRest, GroupsInside}
use Rattle.outcome_lists.specs.Walks.{few_lines, trail_lines, walk_of, walk_text}
use Rattle.outcome_lists.proofs.FirstLemmas.{first_stands}
use Rattle.outcome_lists.proofs.RunLemmas.{stands_by_groups}
use Rattle.outcome_lists.proofs.SomePlaceLemmas.{some_places}
use Rattle.outcome_lists.proofs.WalkLemmas.{walked_count, walked_lines}

-- as many, of the same lines
text_alike : (ps : List Place) (ts : List Trail) (os : List Outcome) → trail_lines ps ts ≡ flat_map outcome_line os → length ts ≡ length os
    → few_lines ps ts ++ (codes "outcomes " ++ (numeral (length ts) ++ 10 ∷ [])) ≡ list_text os
text_alike ps ts os lines count =
    ap (λ n. (if nat_lt 65536 n then [] else trail_lines ps ts) ++ (codes "outcomes " ++ (numeral n ++ 10 ∷ []))) count
    ∙ ap (λ ls. (if nat_lt 65536 (length os) then [] else ls) ++ (codes "outcomes " ++ (numeral (length os) ++ 10 ∷ []))) lines

-- what is walked of a program's places and parts are its outcomes
pub walk_told : EachAtRest → GroupsInside → (h : Machine) (program : List Input) (parts : List Read) → IsReady h → IsSound h → IsProgram program → AreParts h.geometry parts → AreInOrder parts
    → walk_text (places h program) (levels (places h program) (states h program) None parts) ≡ list_text (outcomes_of h program parts)
walk_told rest inside h program parts ready sound is are order =
    let ps = places h program in
    let hs = states h program in
    let first = first_stands stands_by_groups rest inside h program parts ready sound is are order in
    text_alike ps (walk_of ps (levels ps hs None parts)) (outcomes_of h program parts)
    (walked_lines (place_of (cut_places 1 h program)) hs ps parts (some_places h program) first) (walked_count (place_of (cut_places 1 h program)) hs ps parts (some_places h program) first)
