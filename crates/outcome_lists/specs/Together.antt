-- What choices of several parts are together, told place by place: at rest each alone; inside a command group by group.
use Rattle.std.specs.Prelude.{◌≡◌, ◌++◌, Bool, true, IsTrue, List, [], ◌∷◌, map, Option, Some, None}
use Rattle.std.specs.List.{list_all}
use Rattle.script_text.specs.Action.{Action}
use Rattle.explorer.specs.MachineModel.Machine.{Machine}
use Rattle.explorer.specs.MachineModel.Machine.Fate.{Works}
use Rattle.explorer.specs.MachineModel.Commands.{fate, refusal, while_interrupted}
use Rattle.reply_text.specs.Answer.{Answer}
use Rattle.explorer.specs.Outcomes.Finds.{IsReady}
use Rattle.explorer.specs.Outcomes.Seen.{Seen, may_show}
use Rattle.explorer.specs.Outcomes.Stops.{is_of_program}
use Rattle.explorer.specs.AskedReads.declared.read.Read.{Read}
use Rattle.explorer.specs.CutPlaces.declared.place.CutPlace.{CutPlace}
use Rattle.explorer.specs.SightsSeen.declared.way.Way.{Way}
use Rattle.outcome_walk.specs.declared.level.Rows.{Rows}
use Rattle.outcome_walk.specs.declared.sides.Sides.{Sides}
use Rattle.outcome_walk.specs.Walking.{both, is_shown, moved, stands}
use Rattle.explorer.specs.ValueTables.Listed.{IsSound}
use Rattle.outcome_lists.specs.declared.place.Place.{Place}
use Rattle.outcome_lists.specs.declared.ways.Ways.{Ways}
use Rattle.outcome_lists.specs.Apart.{grouped}
use Rattle.outcome_lists.specs.Choices.{Choice, choices}
use Rattle.outcome_lists.specs.Levels.{places, shows_alone}
use Rattle.outcome_lists.specs.Listing.{Picks, asked_with}
use Rattle.outcome_lists.specs.Mixing.{go_together, link, way_of, ways_inside}
use Rattle.outcome_lists.specs.Outcomes.{look_of, nothing}
use Rattle.outcome_lists.specs.Parts.{AreInOrder, AreParts, same_part}
use Rattle.outcome_lists.specs.Walks.{first_place}

-- two parts are old or new together; where their kind is not mixed, each stands alone
abbrev pub goes_by : Option Way → Read → Read → Bool
goes_by None p q = same_part p q
goes_by (Some way) p q = go_together way p q

abbrev pub goes_with : Ways → Read → Read → Bool
goes_with ways p q = goes_by (way_of ways p) p q

-- of two that a part may be, the new one where its kind is mixed
abbrev pub new_by : {A : Type 0} → Option Way → A → A → A
new_by None old new = old
new_by (Some way) old new = new

-- which sides of a place stand, part by part
abbrev pub stood : Rows → Ways → Option Read → Sides → List (Read × List Bool) → Sides
stood rows ways before s [] = s
stood rows ways before s (x ∷ xs) = stood rows ways (Some x.0) (moved rows (link ways before x.0) s x.1) xs

-- Parts in order: some side stands where all of each group are shown by the old state, or all by the new one.
abbrev pub StandsByGroups : Type 0
StandsByGroups = (rows : Rows) (ways : Ways) (xs : List (Read × List Bool)) → AreInOrder (map (λ (x : Read × List Bool). x.0) xs)
    → stands (stood rows ways None (both true) xs)
    ≡ grouped (λ (x y : Read × List Bool). goes_with ways x.0 y.0) (λ (x : Read × List Bool). is_shown x.1 rows.old)
    (λ (x : Read × List Bool). is_shown x.1 (new_by (way_of ways x.0) rows.old rows.new)) xs

-- choices of parts with their parts
abbrev pub paired : List Read → List Choice → List (Read × Choice)
paired [] cs = []
paired (p ∷ ps) [] = []
paired (p ∷ ps) (c ∷ cs) = (p, c) ∷ paired ps cs

-- parts, with which of these states show each of their choices alone
abbrev pub fitted_pairs : List Machine → List Read → List Choice → List (Read × List Bool)
fitted_pairs hs [] cs = []
fitted_pairs hs (p ∷ ps) [] = []
fitted_pairs hs (p ∷ ps) (c ∷ cs) = (p, map (shows_alone c) hs) ∷ fitted_pairs hs ps cs

-- which sides of each place stand, once all of these parts are found so
abbrev pub stood_at : List Place → List (Read × List Bool) → List Sides
stood_at places xs = map (λ (place : Place). stood place.rows place.ways None (both true) xs) places

-- A state at rest shows choices together where it shows each alone.
abbrev pub EachAtRest : Type 0
EachAtRest = (hs : List Machine) (parts : List Read) (cs : List Choice) (h : Machine) → IsReady h → IsSound h → AreParts h.geometry parts → AreInOrder parts
    → Picks (choices hs) parts cs → may_show (look_of (asked_with nothing cs)) h ≡ list_all (λ c. shows_alone c h) cs

-- One in which a command is cut shows them where it shows each group alone, as it was or as the command makes it.
abbrev pub GroupsInside : Type 0
GroupsInside = (hs : List Machine) (parts : List Read) (cs : List Choice) (h : Machine) (action : Action) (answer : Answer) (to : Machine)
    → IsReady h → IsSound h → IsTrue (is_of_program action) → AreParts h.geometry parts → AreInOrder parts → Picks (choices hs) parts cs → refusal h action ≡ None → fate h action ≡ Works answer to
    → may_show (look_of (asked_with nothing cs)) (while_interrupted h action)
    ≡ grouped (λ (x y : Read × Choice). goes_with (ways_inside h.mappings action) x.0 y.0) (λ (x : Read × Choice). shows_alone x.1 h)
    (λ (x : Read × Choice). shows_alone x.1 (new_by (way_of (ways_inside h.mappings action) x.0) h to)) (paired parts cs)

-- Of choices of the first parts, whichever they are, the first place is the first one of which a side stands.
abbrev pub FirstStands : (List Seen → Option CutPlace) → List Machine → List Place → List Read → Type 0
FirstStands at hs places parts = (before after : List Read) (cs : List Choice) → parts ≡ before ++ after → Picks (choices hs) before cs
    → at (look_of (asked_with nothing cs)) ≡ first_place places (stood_at places (fitted_pairs hs before cs))
