use Rattle.std.proofs.Common.{length}
use Rattle.nvm_base.specs.Data.{pairs_of}
use Rattle.nvm_base.proofs.ReadingLemmas.{Taken}
use Rattle.nvm_base.proofs.reading.Reading.take_pairs.Given as goal

abbrev pub invariant-loop-rest : goal.invariant-loop-rest
invariant-loop-rest l = Taken (pairs_of l.pairs) (pairs_of l.rest) l.initial.self l.self

abbrev pub decreases-loop-rest : goal.decreases-loop-rest
decreases-loop-rest l = length l.rest
