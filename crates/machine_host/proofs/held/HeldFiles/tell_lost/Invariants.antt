use Rattle.std.proofs.Common.{◌-◌}
use Rattle.machine_host.proofs.ToldLemmas.{ToldUpTo}
use Rattle.machine_host.proofs.held.HeldFiles.tell_lost.Given as goal

abbrev pub invariant-loop-line : goal.invariant-loop-line
invariant-loop-line g l = ToldUpTo l.name l.inode l.spans (g.D.Lines.state l.device).medium l.fn.self l.self l.from

abbrev pub decreases-loop-line : goal.decreases-loop-line
decreases-loop-line g l = 16384 - l.from
