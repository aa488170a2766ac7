use Rattle.nvm_model.proofs.SlotLemmas.{in_order-created, in_order-deleted, in_order-renamed, in_order-changed}
use Rattle.nvm_model.proofs.listing_laws.slots_and_lists_keep_step.Goals as goal

pub returns-clause-created : goal.returns-clause-created
returns-clause-created g c = in_order-created

pub returns-clause-deleted : goal.returns-clause-deleted
returns-clause-deleted g c = in_order-deleted

pub returns-clause-renamed : goal.returns-clause-renamed
returns-clause-renamed g c = in_order-renamed

pub returns-clause-changed : goal.returns-clause-changed
returns-clause-changed g c = in_order-changed
