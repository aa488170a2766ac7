use Rattle.std.proofs.Common.{◌<◌, ◌^◌, length}
use Rattle.nvm_base.specs.Data.{pairs_of}
use Rattle.workload.proofs.SumLemmas.{Summed}
use Rattle.workload.proofs.totals.pairs_total.Given as goal

abbrev pub invariant-loop-rest : goal.invariant-loop-rest
invariant-loop-rest l = record { summed : Summed (pairs_of l.pairs) (pairs_of l.rest) l.total; fits : l.total < 2 ^ 64 }

abbrev pub decreases-loop-rest : goal.decreases-loop-rest
decreases-loop-rest l = length l.rest
