use Rattle.questions.proofs.PrintedLemmas.{asked_again}
use Rattle.questions.proofs.laws.what_is_printed_may_be_asked.Goals as goal

pub returns : goal.returns
returns c = asked_again
