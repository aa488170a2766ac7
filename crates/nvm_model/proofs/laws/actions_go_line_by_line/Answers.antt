use Rattle.nvm_model.proofs.PageLemmas.{cell_of-put, cell_of-persist, cell_of-fill, cell_of-discard}
use Rattle.nvm_model.proofs.laws.actions_go_line_by_line.Goals as goal

pub returns-clause-put : goal.returns-clause-put
returns-clause-put c = cell_of-put

pub returns-clause-persist : goal.returns-clause-persist
returns-clause-persist c = cell_of-persist

pub returns-clause-fill : goal.returns-clause-fill
returns-clause-fill c = cell_of-fill

pub returns-clause-discard : goal.returns-clause-discard
returns-clause-discard c = cell_of-discard
