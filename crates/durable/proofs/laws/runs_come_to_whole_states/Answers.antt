use Rattle.durable.proofs.WholeLemmas.{whole-reading, whole-run}
use Rattle.durable.proofs.laws.runs_come_to_whole_states.Goals as goal

pub returns-clause-read : goal.returns-clause-read
returns-clause-read c = whole-reading

pub returns-clause-runs : goal.returns-clause-runs
returns-clause-runs c h later inputs said whole run = whole-run inputs h later said whole run
