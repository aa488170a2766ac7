use Rattle.std.proofs.Common.{length}
use Rattle.exploration.proofs.PartLemmas.{PartsUpTo}
use Rattle.exploration.proofs.parts.read_parts.Given as goal

abbrev pub invariant-loop-line : goal.invariant-loop-line
invariant-loop-line l = PartsUpTo l.script l.program l.rest

abbrev pub decreases-loop-line : goal.decreases-loop-line
decreases-loop-line l = length l.rest
