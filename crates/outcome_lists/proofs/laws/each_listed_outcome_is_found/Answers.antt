use Rattle.outcome_lists.proofs.FoundLemmas.{found}
use Rattle.outcome_lists.proofs.laws.each_listed_outcome_is_found.Goals as goal

pub returns : goal.returns
returns c = λ h program parts o has. found h program parts o has
