use Rattle.nvm_model.proofs.RestartLemmas.{keeps-lasts, keeps-persisted}
use Rattle.nvm_model.proofs.laws.what_was_persisted_is_kept.Goals as goal

pub returns-clause-persisted : goal.returns-clause-persisted
returns-clause-persisted c = keeps-persisted

pub returns-clause-lasts : goal.returns-clause-lasts
returns-clause-lasts c = keeps-lasts
