-- Where in a program a cut falls, and the first place at which a look may show what is asked.
use Rattle.std.specs.Prelude.{ℕ, suc, Bool, List, [], ◌∷◌, ◌++◌, map, Option, Some, None, option_map, if◌then◌else◌}
use Rattle.script_text.specs.Script.{Input}
use Rattle.script_text.specs.Script.Input.{Skipped, Malformed, Overlong, Asked}
use Rattle.sights.specs.MachineModel.Machine.{Machine}
use Rattle.sights.specs.MachineModel.Commands.{fate}
use Rattle.sights.specs.Outcomes.Finds.{armed}
use Rattle.sights.specs.Outcomes.Seen.{Seen, may_show}
use Rattle.sights.specs.Outcomes.Stops.{inside, led_to}
use Rattle.cut_places.specs.declared.place.CutPlace.{CutPlace}
use Rattle.cut_places.specs.declared.place.CutPlace.TheVariants.{Before, Inside}

-- a place, and the state that is there
pub record Stop : Type 0 where
  pub place : CutPlace
  pub state : Machine

-- those of a program whose first line has this number; its end is before the line behind it
abbrev pub cut_places : ℕ → Machine → List Input → List Stop
cut_places n h [] = record { place = Before n; state = h } ∷ []
cut_places n h (Skipped ∷ inputs) = cut_places (suc n) h inputs
cut_places n h (Malformed ∷ inputs) = cut_places (suc n) h inputs
cut_places n h (Overlong ∷ inputs) = cut_places (suc n) h inputs
cut_places n h (Asked action ∷ inputs) =
    record { place = Before n; state = h } ∷ map (λ m. record { place = Inside n; state = m }) (inside h action (fate h action))
    ++ cut_places (suc n) (led_to h (fate h action)) inputs

-- the first whose state passes
abbrev pub first_stop : (Machine → Bool) → List Stop → Option Stop
first_stop test [] = None
first_stop test (stop ∷ stops) = if test stop.state then Some stop else first_stop test stops

-- the first place of a cut in a program after which its look may show this, with the state that is there
abbrev pub found_stop : Machine → List Input → List Seen → Option Stop
found_stop h program look = first_stop (may_show look) (cut_places 1 (armed h) program)

abbrev pub found_at : Machine → List Input → List Seen → Option CutPlace
found_at h program look = option_map (λ stop. stop.place) (found_stop h program look)
