use Rattle.std.proofs.Common.{◌≡◌, length}
use Rattle.script_text.specs.Script.{lines_of}
use Rattle.exploration.specs.Program.{has_command}
use Rattle.exploration.proofs.ahead.has_command.Given as goal

abbrev pub invariant-loop-line : goal.invariant-loop-line
invariant-loop-line l = has_command (lines_of l.text) ≡ has_command (lines_of l.rest)

abbrev pub decreases-loop-line : goal.decreases-loop-line
decreases-loop-line l = length l.rest
