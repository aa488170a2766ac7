use Rattle.inode_table.proofs.ReadLemmas.{HasRead}
use Rattle.inode_table.proofs.reading.read_slots.Given as goal

abbrev pub invariant-loop-inode : goal.invariant-loop-inode
invariant-loop-inode l = HasRead l.words l.inode l.slots.items
