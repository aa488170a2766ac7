use Rattle.std.proofs.Common.{[], ◌∷◌, arith, length-append}
use Rattle.std.proofs.lemmas.Result.{err_from_is_err_and}
use Rattle.nvm_base.proofs.AppendLemmas.{Appended-none, Appended-more, Appends-stopped, Appends-last, Appends-whole}
use Rattle.reply_text.specs.Answer.{answer_text, answer_line}
use Rattle.reply_text.specs.Answer.Answer.{Bytes}
use Rattle.reply_text.proofs.data.print_line.Goals as goal

pub returns-in_err-print_text-clause-text : goal.returns-in_err-print_text-clause-text
unfolding answer_line
returns-in_err-print_text-clause-text c =
    let p = err_from_is_err_and c.from_residual.result c.from_residual.ensures.1 in
    rw p.1 (Appends-stopped _ (answer_text (Bytes c.args.bytes.now)) (10 ∷ []) _ _ _ _ (Appended-none _ c.args.out.now) c.in_err-print_text.ensures.text)

pub returns-clause-text : goal.returns-clause-text
unfolding answer_line
returns-clause-text c =
    let push = c.push.ensures in
    let text = Appended-more _ (answer_text (Bytes c.args.bytes.now)) (10 ∷ []) _ _ _ tt (Appended-none _ c.args.out.now) c.in_ok-print_text.ensures.text in
    Appends-last _ _ _ _ _ _ text (Appends-whole (10 ∷ []) _ _ c.push.result push.ok push.err push.succeeds push.spare)

pub returns-clause-short : goal.returns-clause-short
unfolding answer_line
returns-clause-short c = omega (arith, c.in_ok-print_text.ensures.short, length-append (answer_text (Bytes c.args.bytes.now)) (10 ∷ []))

pub returns-in_err-print_text-clause-short : goal.returns-in_err-print_text-clause-short
unfolding answer_line
returns-in_err-print_text-clause-short c = omega (arith, c.in_err-print_text.ensures.short, length-append (answer_text (Bytes c.args.bytes.now)) (10 ∷ []))
