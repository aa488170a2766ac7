-- A list of outcomes, as it is printed.
use Rattle.std.specs.Prelude.{ℕ, List, [], ◌∷◌, ◌++◌, codes, decimal, flat_map, length, nat_lt, if◌then◌else◌}
use Rattle.script_text.specs.Script.{Input}
use Rattle.explorer.specs.MachineModel.Machine.{Machine}
use Rattle.explorer.specs.AskedReads.declared.read.Read.{Read}
use Rattle.outcome_walk.specs.Numbers.{numeral}
use Rattle.explorer.specs.CutPlaces.declared.place.CutPlace.{CutPlace}
use Rattle.explorer.specs.CutPlaces.declared.place.CutPlace.TheVariants.{Before, Inside}
use Rattle.outcome_lists.specs.Outcomes.{Outcome, outcomes}

-- where a cut falls
abbrev pub place_text : CutPlace → List ℕ
place_text (Before n) = codes "before " ++ decimal n
place_text (Inside n) = codes "inside " ++ decimal n

abbrev pub outcome_line : Outcome → List ℕ
outcome_line o = place_text o.place ++ (o.text ++ 10 ∷ [])

-- a line for each, where they are few enough
abbrev pub lines_of : List Outcome → List ℕ
lines_of os = if nat_lt 65536 (length os) then [] else flat_map outcome_line os

-- those lines, and how many outcomes there are
abbrev pub list_text : List Outcome → List ℕ
list_text os = lines_of os ++ (codes "outcomes " ++ (numeral (length os) ++ 10 ∷ []))

-- the list of a look's reads
abbrev pub outcome_list : Machine → List Input → List Read → List ℕ
outcome_list h program look = list_text (outcomes h program look)
