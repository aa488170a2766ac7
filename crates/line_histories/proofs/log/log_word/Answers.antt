use Rattle.std.proofs.Common.{◌∷◌, ◌∙◌, ◌+◌, ◌*◌, ap, sym}
use Rattle.line_device.specs.History.{newest}
use Rattle.line_device.specs.Word.{word_over}
use Rattle.line_histories.specs.Log.{history_in}
use Rattle.line_histories.proofs.LogLemmas.{logged, logged-other}
use Rattle.line_histories.proofs.log.log_word.Goals as goal

pub returns-in_ok-push-clause-word : goal.returns-in_ok-push-clause-word
returns-in_ok-push-clause-word c =
    let place = 8 * c.args.n + c.args.w in
    ap (λ l. c.args.durable ∷ history_in l c.args.w) c.in_ok-push.ensures.items
    ∙ logged c.args.durable c.args.at place c.args.w c.put_word-value.result c.args.bytes.now c.args.log.now.items (sym c.if-reaches_word.ensures)
    (c.put_word-value.ensures ∙ ap (word_over c.args.at c.args.bytes.now place) (c.newest_in.ensures ∙ ap (λ l. newest (c.args.durable ∷ history_in l c.args.w)) c.deref.ensures.value))

pub returns-in_ok-push-clause-others : goal.returns-in_ok-push-clause-others
returns-in_ok-push-clause-others c =
    λ other is. ap (λ l. history_in l other) c.in_ok-push.ensures.items ∙ logged-other c.args.w c.put_word-value.result other c.args.log.now.items is
