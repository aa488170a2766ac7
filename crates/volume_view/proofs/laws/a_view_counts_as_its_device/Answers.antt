use Rattle.volume_view.proofs.PanelLemmas.{same_loan, runs_behind}
use Rattle.volume_view.proofs.laws.a_view_counts_as_its_device.Goals as goal

pub returns-clause-loans : goal.returns-clause-loans
returns-clause-loans c = same_loan

pub returns-clause-runs : goal.returns-clause-runs
returns-clause-runs c = runs_behind
