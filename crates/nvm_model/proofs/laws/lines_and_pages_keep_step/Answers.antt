use Rattle.nvm_model.proofs.RestartLemmas.{stand-restarted}
use Rattle.nvm_model.proofs.StandLemmas.{cell_stands-persisted, pages_stand-write_back}
use Rattle.nvm_model.proofs.laws.lines_and_pages_keep_step.Goals as goal

pub returns-clause-write_back : goal.returns-clause-write_back
returns-clause-write_back c = pages_stand-write_back

pub returns-clause-restart : goal.returns-clause-restart
returns-clause-restart c = stand-restarted

pub returns-clause-persisted : goal.returns-clause-persisted
returns-clause-persisted c = cell_stands-persisted
