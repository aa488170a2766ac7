use Rattle.outcome_lists.proofs.OnceLemmas.{stand_once}
use Rattle.outcome_lists.proofs.laws.no_outcome_stands_twice.Goals as goal

pub returns : goal.returns
returns c = λ h first program parts volume files led small. stand_once h first program parts volume files led small
