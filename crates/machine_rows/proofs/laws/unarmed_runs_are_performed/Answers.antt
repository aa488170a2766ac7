use Rattle.machine_model.proofs.UnarmedLemmas.{unarmed_performs}
use Rattle.machine_rows.proofs.laws.unarmed_runs_are_performed.Goals as goal

pub returns : goal.returns
returns c = unarmed_performs
