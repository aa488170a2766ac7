use Rattle.exploration.proofs.AskLemmas.{AskedUpTo}
use Rattle.exploration.proofs.question.ask_all.Given as goal

abbrev pub invariant-loop-read : goal.invariant-loop-read
invariant-loop-read l = AskedUpTo l.geometry l.reads l.replies l.question l.read-index l.left
