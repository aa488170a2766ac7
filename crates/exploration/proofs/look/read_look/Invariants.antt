use Rattle.std.proofs.Common.{length}
use Rattle.exploration.proofs.LookLemmas.{LookUpTo}
use Rattle.exploration.proofs.look.read_look.Given as goal

abbrev pub invariant-loop-line : goal.invariant-loop-line
invariant-loop-line l = LookUpTo l.geometry l.text l.first l.look l.number l.rest

abbrev pub decreases-loop-line : goal.decreases-loop-line
decreases-loop-line l = length l.rest
