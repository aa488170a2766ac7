-- What a list is made from: the places of a cut, and of each part its choices, with the states that show them.
use Rattle.std.specs.Prelude.{◌∷◌, ◌++◌, ℕ, suc, Bool, List, [], map, Option, Some, is_none, if◌then◌else◌}
use Rattle.script_text.specs.Script.{Input}
use Rattle.script_text.specs.Script.Input.{Skipped, Malformed, Overlong, Asked}
use Rattle.explorer.specs.MachineModel.Machine.{Machine}
use Rattle.explorer.specs.MachineModel.Commands.{fate, refusal}
use Rattle.explorer.specs.Outcomes.Seen.{may_show}
use Rattle.explorer.specs.Outcomes.Stops.{led_to}
use Rattle.explorer.specs.AskedReads.declared.read.Read.{Read}
use Rattle.explorer.specs.CutPlaces.declared.place.CutPlace.TheVariants.{Before, Inside}
use Rattle.outcome_walk.specs.Walking.{Part, Way}
use Rattle.outcome_lists.specs.declared.place.Place.{Place}
use Rattle.outcome_lists.specs.declared.ways.Ways.{Ways}
use Rattle.outcome_lists.specs.Choices.{Choice, choices}
use Rattle.outcome_lists.specs.Mixing.{link, still, ways_inside}
use Rattle.outcome_lists.specs.Outcomes.{and_seen, look_of, nothing}

-- before a command, of which k are done; inside it, where it is done itself
abbrev pub before_place : ℕ → ℕ → Place
before_place n k = record { at = Before n; rows = record { old = k; new = k }; ways = still }

abbrev pub inside_places : ℕ → ℕ → Bool → Ways → List Place
inside_places n k done ways = if done then record { at = Inside n; rows = record { old = k; new = suc k }; ways = ways } ∷ [] else []

-- the places of a program whose first line has the number n, k commands behind the first state
abbrev pub places_from : ℕ → ℕ → Machine → List Input → List Place
places_from n k h [] = before_place n k ∷ []
places_from n k h (Skipped ∷ inputs) = places_from (suc n) k h inputs
places_from n k h (Malformed ∷ inputs) = places_from (suc n) k h inputs
places_from n k h (Overlong ∷ inputs) = places_from (suc n) k h inputs
places_from n k h (Asked action ∷ inputs) =
    before_place n k ∷ inside_places n k (is_none (refusal h action)) (ways_inside h.mappings action)
    ++ places_from (suc n) (suc k) (led_to h (fate h action)) inputs

abbrev pub places : Machine → List Input → List Place
places h program = places_from 1 0 h program

-- a state shows a choice alone, where nothing is interrupted
abbrev pub shows_alone : Choice → Machine → Bool
shows_alone c m = may_show (look_of (and_seen nothing c.seen)) m

-- a choice, with which of these states show it
abbrev pub fitted : List Machine → Choice → Way
fitted hs c = record { text = c.text; fits = map (shows_alone c) hs }

-- a part behind that one: how it goes with it at each place, and its choices
abbrev pub level : List Place → List Machine → Option Read → Read → Part
level places hs before part = record { links = map (λ (place : Place). link place.ways before part) places; ways = map (fitted hs) (choices hs part) }

-- those of all parts
abbrev pub levels : List Place → List Machine → Option Read → List Read → List Part
levels places hs before [] = []
levels places hs before (part ∷ parts) = level places hs before part ∷ levels places hs (Some part) parts
