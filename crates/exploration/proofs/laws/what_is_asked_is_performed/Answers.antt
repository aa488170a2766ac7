use Rattle.exploration.proofs.ReadLemmas.{performed}
use Rattle.exploration.proofs.laws.what_is_asked_is_performed.Goals as goal

pub returns : goal.returns
returns c = performed
