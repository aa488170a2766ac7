-- The state that lines lead to.
use Rattle.std.specs.Prelude.{List, [], ◌∷◌}
use Rattle.script_text.specs.Script.{Input}
use Rattle.script_text.specs.Script.Input.{Skipped, Malformed, Overlong, Asked}
use Rattle.cut_places.specs.MachineModel.Machine.{Machine}
use Rattle.cut_places.specs.MachineModel.Commands.{fate}
use Rattle.cut_places.specs.Outcomes.Stops.{led_to}

-- that of all their commands, where nothing stops one
abbrev pub led_through : Machine → List Input → Machine
led_through h [] = h
led_through h (Skipped ∷ inputs) = led_through h inputs
led_through h (Malformed ∷ inputs) = led_through h inputs
led_through h (Overlong ∷ inputs) = led_through h inputs
led_through h (Asked action ∷ inputs) = led_through (led_to h (fate h action)) inputs
