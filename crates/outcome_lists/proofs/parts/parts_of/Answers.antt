use Rattle.outcome_lists.proofs.PartLemmas.{next_read}
use Rattle.outcome_lists.proofs.parts.parts_of.Goals as goal

pub loop-read-preserved : goal.loop-read-preserved
loop-read-preserved c =
    let i = c.loop-read.invariant in
    let after = c.in_ok-add_read.ensures in
    let old = c.loop-read.parts.items in
    let new = c.add_read.new.parts.items in
    record {
      parts = next_read c.args.geometry c.args.reads.now c.loop-read.read-index c.read-item.result old new c.loop-read-test.true c.read-item.is i.parts after.parts;
      taken = after.taken i.taken;
      order = after.order i.order;
    }
