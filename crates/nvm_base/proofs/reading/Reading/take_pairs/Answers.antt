use Rattle.std.proofs.Common.{sym}
use Rattle.nvm_base.specs.Data.{run}
use Rattle.nvm_base.proofs.ReadingLemmas.{tail, Taken-none, Taken-more, pairs_of-more}
use Rattle.nvm_base.proofs.reading.Reading.take_pairs.Goals as goal

pub loop-rest-init : goal.loop-rest-init
loop-rest-init c = Taken-none _ _

pub loop-rest-preserved : goal.loop-rest-preserved
loop-rest-preserved c =
    let step = pairs_of-more c.loop-rest.rest.now c.in-Some.byte c.in-len2-up.len_at_least (sym c.in-Some.ensures) in
    rw tail (Taken-more _ _ _ (run c.in-Some.byte 1) _ _ _ c.loop-rest.invariant step c.in_ok-take_run.ensures)
