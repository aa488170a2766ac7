use Rattle.std.proofs.Common.{ap, sym, ◌∙◌, not}
use Rattle.exploration.proofs.AskLemmas.{any-mapped}
use Rattle.exploration.proofs.question.asks_nothing.Goals as goal

pub returns-in-May : goal.returns-in-May
returns-in-May c = rw c.in-May.is (ap not (c.has_reply.ensures ∙ sym (any-mapped c.args.replies.now)))
