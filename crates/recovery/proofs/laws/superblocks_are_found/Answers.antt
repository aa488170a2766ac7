use Rattle.recovery.proofs.SuperblockLemmas.{superblock_told, early_none, superblock_found}
use Rattle.recovery.proofs.laws.superblocks_are_found.Goals as goal

pub returns-clause-told : goal.returns-clause-told
returns-clause-told c = superblock_told

pub returns-clause-right : goal.returns-clause-right
returns-clause-right c = early_none

pub returns-clause-found : goal.returns-clause-found
returns-clause-found c = superblock_found
