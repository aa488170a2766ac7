use Rattle.block_map.proofs.SeenLemmas.{HasSeen}
use Rattle.block_map.proofs.table.check.Given as goal

abbrev pub invariant-loop-i : goal.invariant-loop-i
invariant-loop-i l = HasSeen l.words l.i l.seen.items
