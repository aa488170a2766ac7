use Rattle.script_text.specs.Script.{words_of}
use Rattle.questions.proofs.AskLemmas.{AsksRest}
use Rattle.questions.proofs.PartLemmas.{words_left, left_count}
use Rattle.questions.proofs.never.read_replies.Given as goal

abbrev pub invariant-loop-next : goal.invariant-loop-next
invariant-loop-next l = AsksRest (words_of l.words) l.replies.items (words_left l.next)

abbrev pub decreases-loop-next : goal.decreases-loop-next
decreases-loop-next l = left_count (words_left l.next)
