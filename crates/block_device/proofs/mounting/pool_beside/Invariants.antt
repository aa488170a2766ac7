use Rattle.block_device.proofs.MarkLemmas.{AreLeft}
use Rattle.block_device.proofs.mounting.pool_beside.Given as goal

abbrev pub invariant-loop-block : goal.invariant-loop-block
invariant-loop-block l = AreLeft l.map l.blocks l.block l.pool
