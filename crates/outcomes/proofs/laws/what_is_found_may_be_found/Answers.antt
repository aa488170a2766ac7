use Rattle.outcomes.proofs.FoundLemmas.{found}
use Rattle.outcomes.proofs.laws.what_is_found_may_be_found.Goals as goal

pub returns : goal.returns
returns c = found
