use Rattle.nvm_model.proofs.FillLemmas.{fill-nothing}
use Rattle.nvm_model.proofs.PageLemmas.{presence_of-put, presence_of-persist}
use Rattle.nvm_model.proofs.laws.only_fills_and_discards_change_which_pages_are_there.Goals as goal

pub returns-clause-put : goal.returns-clause-put
returns-clause-put c = presence_of-put

pub returns-clause-persist : goal.returns-clause-persist
returns-clause-persist c = presence_of-persist

pub returns-clause-fill : goal.returns-clause-fill
returns-clause-fill c = fill-nothing
