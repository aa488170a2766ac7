use Rattle.outcome_runs.proofs.ScriptLemmas.{bring-script}
use Rattle.outcome_runs.proofs.laws.scripts_bring_right.Goals as goal

pub returns : goal.returns
returns c = bring-script
