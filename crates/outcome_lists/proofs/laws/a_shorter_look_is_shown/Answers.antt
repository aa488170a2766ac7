use Rattle.outcome_lists.proofs.ShorterLemmas.{shorter_shown}
use Rattle.outcome_lists.proofs.laws.a_shorter_look_is_shown.Goals as goal

pub returns : goal.returns
returns c = λ off a seen shown. shorter_shown off a seen shown
