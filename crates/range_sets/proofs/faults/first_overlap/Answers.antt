use Rattle.range_sets.proofs.DisjointLemmas.{first_overlap_is, is_disjoint_more}
use Rattle.range_sets.proofs.faults.first_overlap.Goals as goal

pub returns-then-meets : goal.returns-then-meets
returns-then-meets c = first_overlap_is c.args.ranges.now c.loop-i.i _ c.loop-i-test.true c.loop-i.invariant c.if-meets.ensures

pub loop-i-preserved : goal.loop-i-preserved
loop-i-preserved c = is_disjoint_more c.args.ranges.now c.loop-i.i _ _ c.loop-i-test.true c.loop-i.invariant c.if-meets.ensures
