use Rattle.nvm_model.proofs.PageLemmas.{presence_of-read_pages}
use Rattle.nvm_model.proofs.RestartLemmas.{keeps-read}
use Rattle.nvm_model.proofs.laws.a_restart_keeps_what_one_left.Goals as goal

pub returns-clause-keeps : goal.returns-clause-keeps
returns-clause-keeps c = keeps-read

pub returns-clause-there : goal.returns-clause-there
returns-clause-there c = presence_of-read_pages
