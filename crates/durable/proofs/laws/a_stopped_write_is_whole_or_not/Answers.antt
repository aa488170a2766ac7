use Rattle.durable.proofs.ShownLemmas.{shown, shown_alone, shown_blocks, shown_discarded, shown_holes}
use Rattle.durable.proofs.WholeWriteLemmas.{recovered, restarted}
use Rattle.durable.proofs.laws.a_stopped_write_is_whole_or_not.Goals as goal

pub returns-clause-recovered : goal.returns-clause-recovered
returns-clause-recovered c = recovered

pub returns-clause-restarted : goal.returns-clause-restarted
returns-clause-restarted c = restarted

pub returns-clause-shown : goal.returns-clause-shown
returns-clause-shown c = shown

pub returns-clause-shown_alone : goal.returns-clause-shown_alone
returns-clause-shown_alone c = shown_alone

pub returns-clause-shown_holes : goal.returns-clause-shown_holes
returns-clause-shown_holes c = shown_holes

pub returns-clause-shown_blocks : goal.returns-clause-shown_blocks
returns-clause-shown_blocks c = shown_blocks

pub returns-clause-shown_discarded : goal.returns-clause-shown_discarded
returns-clause-shown_discarded c = shown_discarded
