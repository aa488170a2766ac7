use Rattle.nvm_model.specs.Storage.Block.{Absent, Scarred}
use Rattle.block_sights.proofs.WrittenLemmas.{made_seen}
use Rattle.block_sights.proofs.laws.changed_blocks_are_seen_so.Goals as goal

pub returns-clause-absent : goal.returns-clause-absent
returns-clause-absent c = λ spans blocks b there. made_seen spans Absent blocks b there

pub returns-clause-scarred : goal.returns-clause-scarred
returns-clause-scarred c = λ spans blocks b there. made_seen spans Scarred blocks b there
