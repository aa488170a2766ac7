use Rattle.exploration.proofs.AnswerableLemmas.{all_seen}
use Rattle.exploration.proofs.laws.what_is_asked_was_read.Goals as goal

pub returns : goal.returns
returns c = all_seen
