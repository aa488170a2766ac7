use Rattle.word_tables.proofs.SuperblockLemmas.{told, right}
use Rattle.word_tables.proofs.superblock.superblocks_tell_their_sizes.Goals as goal

pub returns-clause-told : goal.returns-clause-told
returns-clause-told c = told

pub returns-clause-right : goal.returns-clause-right
returns-clause-right c = right
