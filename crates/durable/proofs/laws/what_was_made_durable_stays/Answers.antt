use Rattle.durable.proofs.LawLemmas.{finished_durable}
use Rattle.durable.proofs.PassLemmas.{keeps_through}
use Rattle.durable.proofs.ScriptLemmas.{bring-script}
use Rattle.durable.proofs.laws.what_was_made_durable_stays.Goals as goal

pub returns-clause-stays : goal.returns-clause-stays
returns-clause-stays c = finished_durable

pub returns-clause-scripts : goal.returns-clause-scripts
returns-clause-scripts c = bring-script

pub returns-clause-whole : goal.returns-clause-whole
returns-clause-whole c = keeps_through
