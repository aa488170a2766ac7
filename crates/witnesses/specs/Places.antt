-- The place of a cut: before a command, or inside one.
use Rattle.std.specs.Prelude.{◌≡◌, Bool, Option, Some, None}
use Rattle.word_tables.specs.declared.geometry.Geometry.{Geometry}
use Rattle.script_text.specs.Action.{Action}
use Rattle.cut_places.specs.MachineModel.Machine.{Machine}
use Rattle.cut_places.specs.MachineModel.Commands.{refusal, while_interrupted}
use Rattle.cut_places.specs.AskedReads.declared.question.Question.{Question}
use Rattle.cut_places.specs.declared.sight.Sight.{Sight}
use Rattle.cut_places.specs.Sights.{shows, shows_inside}

-- a cut there may leave what a question asks
abbrev pub shows_at : Geometry → Option Action → Question → Sight → Bool
shows_at geo None q sight = shows q sight
shows_at geo (Some action) q sight = shows_inside geo action q sight

-- the state in which the power goes; one inside a command that the machine does not refuse
abbrev pub state_at : Machine → Option Action → Machine
state_at h None = h
state_at h (Some action) = while_interrupted h action

abbrev pub IsReached : Machine → Option Action → Type 0
IsReached h None = Unit {0}
IsReached h (Some action) = refusal h action ≡ None
