use Rattle.outcome_lists.proofs.FoundLemmas.{listed}
use Rattle.outcome_lists.proofs.laws.each_outcome_is_listed.Goals as goal

pub returns : goal.returns
returns c = λ h program parts o has. listed h program parts o has
