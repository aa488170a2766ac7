use Rattle.std.proofs.Common.{subst}
use Rattle.script_text.specs.Script.{words_of}
use Rattle.questions.proofs.PartLemmas.{words_left}
use Rattle.questions.proofs.AskLemmas.{AsksRest, left_count-falls, read_more, read_over, words_left-is}
use Rattle.questions.proofs.never.read_replies.Goals as goal

pub returns-in-Err-Syntax : goal.returns-in-Err-Syntax
returns-in-Err-Syntax c =
    let so = subst (λ next. AsksRest (words_of c.args.words.now) c.loop-next.replies.items (words_left next)) c.in-Some.is c.loop-next.invariant in
    let asks = c.in-Err-Syntax.ensures in
    read_over (words_of c.args.words.now) c.loop-next.replies.items (words_of c.in-Some.part.now) c.in_ok-number.number so (rw c.in-Err-Syntax.field-0-is at asks) c.in_ok-number.ensures.number

pub loop-next-smaller : goal.loop-next-smaller
loop-next-smaller c =
    rw c.in-Some.is (left_count-falls (words_of c.in-Some.part.now) (words_left c.after_bar-next.result) (words_left-is c.after_bar-next.result (words_of c.in-Some.part.now) c.after_bar-next.ensures))

pub loop-next-preserved : goal.loop-next-preserved
loop-next-preserved c =
    let so = subst (λ next. AsksRest (words_of c.args.words.now) c.loop-next.replies.items (words_left next)) c.in-Some.is c.loop-next.invariant in
    let left = words_left-is c.after_bar-next.result (words_of c.in-Some.part.now) c.after_bar-next.ensures in
    read_more (words_of c.args.words.now) c.loop-next.replies.items c.push.new.self.items c.in-Ok.reply (words_of c.in-Some.part.now) (words_left c.after_bar-next.result) so c.in-Ok.ensures c.in_ok-push-in-Ok.ensures.ok left
