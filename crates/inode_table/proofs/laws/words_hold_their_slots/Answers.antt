use Rattle.inode_table.proofs.HeldLemmas.{slots_read, words_held, words_right}
use Rattle.inode_table.proofs.laws.words_hold_their_slots.Goals as goal

pub returns-clause-held : goal.returns-clause-held
returns-clause-held c = words_held

pub returns-clause-read : goal.returns-clause-read
returns-clause-read c = slots_read

pub returns-clause-right : goal.returns-clause-right
returns-clause-right c = words_right
