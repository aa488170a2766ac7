-- What came of a command of a program that was performed.
use Rattle.std.specs.Prelude.{◌≡◌, Bool, Option, Some, None, is_none}
use Rattle.line_device.specs.Device.{Device}
use Rattle.script_text.specs.declared.command.Command.{Command}
use Rattle.script_text.specs.Action.{Action, action_of}
use Rattle.cut_places.specs.MachineModel.Machine.{Machine}
use Rattle.cut_places.specs.MachineModel.Commands.{fate, refusal}
use Rattle.machine_host.specs.Stands.{HostState, Stands}
use Rattle.cut_places.specs.Outcomes.Finds.{IsReady}
use Rattle.cut_places.specs.Outcomes.Stops.{led_to}

-- host and device stand for the state after a command, in which nothing is interrupted
pub record IsAfter (h : Machine) (action : Action) (host : HostState) (d : Device) : Type 0 where
  pub stands : Stands host d (led_to h (fate h action))
  pub ready : IsReady (led_to h (fate h action))

-- that of a line, and whether it was done, of which nothing comes where it has no command
abbrev pub LineDone : Machine → Option Command → HostState → Device → Bool → Type 0
LineDone h None host d is = Stands host d h × IsReady h
LineDone h (Some command) host d is = (is_none (refusal h (action_of command)) ≡ is) × IsAfter h (action_of command) host d
