use Rattle.nvm_model.proofs.NextLemmas.{bad_from-all, bad_from-next, bad_from-none}
use Rattle.nvm_model.proofs.touched_laws.bad_lines_are_found_one_by_one.Goals as goal

pub returns-clause-all : goal.returns-clause-all
returns-clause-all c = bad_from-all

pub returns-clause-none : goal.returns-clause-none
returns-clause-none c = bad_from-none

pub returns-clause-next : goal.returns-clause-next
returns-clause-next c = bad_from-next
