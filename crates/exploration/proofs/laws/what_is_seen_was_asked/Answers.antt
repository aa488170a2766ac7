use Rattle.exploration.proofs.SeenLemmas.{seen-all}
use Rattle.exploration.proofs.laws.what_is_seen_was_asked.Goals as goal

pub returns-clause-all : goal.returns-clause-all
returns-clause-all c = seen-all
