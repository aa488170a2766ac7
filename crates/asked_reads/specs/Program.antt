-- A program, line by line: a command or none.
use Rattle.std.specs.Prelude.{List, map, Option, Some, None, option_map}
use Rattle.script_text.specs.declared.command.Command.{Command}
use Rattle.script_text.specs.Action.{Action, action_of}
use Rattle.script_text.specs.Parsing.{InBounds}
use Rattle.script_text.specs.Script.{Input}
use Rattle.script_text.specs.Script.Input.{Asked, Skipped}

-- what a line asks for
abbrev pub asks_for : Option Action → Input
asks_for None = Skipped
asks_for (Some action) = Asked action

abbrev pub input_of : Option Command → Input
input_of line = asks_for (option_map action_of line)

abbrev pub inputs_of_lines : List (Option Command) → List Input
inputs_of_lines lines = map input_of lines

-- its numbers are within bounds, as those of a command that was read are
abbrev pub IsBounded : Option Command → Type 0
IsBounded None = Unit {0}
IsBounded (Some command) = InBounds (action_of command)
