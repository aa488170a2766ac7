use Rattle.nvm_model.proofs.SeveralLemmas.{cell_of-spans, spans-first, spans-none}
use Rattle.nvm_model.proofs.touched_laws.spans_are_made_durable_one_by_one.Goals as goal

pub returns-clause-none : goal.returns-clause-none
returns-clause-none c = spans-none

pub returns-clause-more : goal.returns-clause-more
returns-clause-more c = spans-first

pub returns-clause-lines : goal.returns-clause-lines
returns-clause-lines c = cell_of-spans
