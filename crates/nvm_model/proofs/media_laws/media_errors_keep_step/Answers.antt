use Rattle.nvm_model.proofs.MediaLemmas.{cell_stands-poisoned, cell_stands-weakened, cell_stands-cleared, clear_cell-healthy, pages_stand-change}
use Rattle.nvm_model.proofs.media_laws.media_errors_keep_step.Goals as goal

pub returns-clause-lost : goal.returns-clause-lost
returns-clause-lost c = λ m after n cell x. cell_stands-poisoned m after n x

pub returns-clause-weak : goal.returns-clause-weak
returns-clause-weak c = cell_stands-weakened

pub returns-clause-cleared : goal.returns-clause-cleared
returns-clause-cleared c = cell_stands-cleared

pub returns-clause-healthy : goal.returns-clause-healthy
returns-clause-healthy c = clear_cell-healthy

pub returns-clause-pages : goal.returns-clause-pages
returns-clause-pages c = pages_stand-change
