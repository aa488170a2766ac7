use Rattle.pm_volume.proofs.LeftLemmas.{has_words, persist-keeps, put-keeps, store-keeps, sync-keeps}
use Rattle.pm_volume.proofs.LineLemmas.{kept-reads}
use Rattle.pm_volume.proofs.line_laws.stores_and_syncs_keep_other_lines.Goals as goal

pub returns-clause-stored : goal.returns-clause-stored
returns-clause-stored c = store-keeps

pub returns-clause-put : goal.returns-clause-put
returns-clause-put c = put-keeps

pub returns-clause-synced : goal.returns-clause-synced
returns-clause-synced c = sync-keeps

pub returns-clause-persisted : goal.returns-clause-persisted
returns-clause-persisted c = persist-keeps

pub returns-clause-words : goal.returns-clause-words
returns-clause-words c = has_words

pub returns-clause-reads : goal.returns-clause-reads
returns-clause-reads c = λ pages others n kept. kept-reads _ _ kept
