use Rattle.reply_text.proofs.TellLemmas.{answer-told, answers-told}
use Rattle.reply_text.proofs.laws.replies_tell_their_answers.Goals as goal

pub returns-clause-one : goal.returns-clause-one
returns-clause-one c = answer-told

pub returns-clause-all : goal.returns-clause-all
returns-clause-all c = answers-told
