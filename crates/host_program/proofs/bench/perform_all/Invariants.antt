use Rattle.std.proofs.Common.{length}
use Rattle.machine_host.specs.Stands.{HostServes}
use Rattle.host_program.proofs.CountLemmas.{Counting}
use Rattle.host_program.proofs.bench.perform_all.Given as goal

-- the lines before those that are left are performed and counted
abbrev pub invariant-loop-out : goal.invariant-loop-out
invariant-loop-out g l = record {
  counting : Counting l.fn.workload l.workload l.fn.host l.host l.summary (g.D.Lines.state l.fn.device) (g.D.Lines.state l.device);
  serves : HostServes l.host (g.D.Lines.state l.device);
}

abbrev pub decreases-loop-out : goal.decreases-loop-out
decreases-loop-out g l = length l.workload
