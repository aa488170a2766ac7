use Rattle.questions.proofs.CommentLemmas.{question-skipped}
use Rattle.questions.proofs.laws.a_question_is_a_comment.Goals as goal

pub returns : goal.returns
returns c = question-skipped
