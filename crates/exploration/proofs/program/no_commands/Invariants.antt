use Rattle.std.proofs.Common.{◌≡◌, None, replicate}
use Rattle.exploration.proofs.program.no_commands.Given as goal

abbrev pub invariant-loop : goal.invariant-loop
invariant-loop l = l.lines.items ≡ replicate l.counter None
