use Rattle.outcome_runs.proofs.BeginLemmas.{fresh_kept, read_kept}
use Rattle.outcome_runs.proofs.RunKeptLemmas.{run_kept, run_ready}
use Rattle.outcome_runs.proofs.laws.runs_keep_states.Goals as goal

pub returns-clause-fresh : goal.returns-clause-fresh
returns-clause-fresh c = fresh_kept

pub returns-clause-mounted : goal.returns-clause-mounted
returns-clause-mounted c = read_kept

pub returns-clause-later : goal.returns-clause-later
returns-clause-later c = run_kept

pub returns-clause-ready : goal.returns-clause-ready
returns-clause-ready c = run_ready
