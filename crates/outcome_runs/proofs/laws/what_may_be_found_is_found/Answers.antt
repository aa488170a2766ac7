use Rattle.outcome_runs.proofs.BackLemmas.{is_found}
use Rattle.outcome_runs.proofs.laws.what_may_be_found_is_found.Goals as goal

pub returns : goal.returns
returns c = is_found c.what_may_be_shown_is_left.ensures.volume c.what_may_be_shown_is_left.ensures.blocks c.what_may_be_shown_is_left.ensures.files
