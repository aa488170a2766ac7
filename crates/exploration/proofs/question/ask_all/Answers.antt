use Rattle.std.proofs.Common.{◌+◌, ◌∷◌, drop, refl, ap, sym, ◌∙◌}
use Rattle.std.proofs.lemmas.Result.{err_from_is_err_and}
use Rattle.std.proofs.lemmas.List.{drop_more}
use Rattle.exploration.proofs.AskLemmas.{asked-any, asked-one, asked-short, asked-start, asked-wrong}
use Rattle.exploration.proofs.question.ask_all.Goals.{in-Some-reply+in_ok-ask, in_default-reply}
use Rattle.exploration.proofs.question.ask_all.Goals as goal

pub loop-read-init : goal.loop-read-init
loop-read-init c = asked-start c.args.geometry c.args.reads.now c.args.replies.now c.no_reads-question.result c.no_reads-question.ensures

pub returns-in_default : goal.returns-in_default
returns-in_default c =
    asked-short c.args.geometry c.args.reads.now c.args.replies.now c.loop-read.left.now c.loop-read.question c.loop-read.read-index c.loop-read.invariant c.loop-read-test.true c.in_default.ensures.cases

pub returns-in_err-ask : goal.returns-in_err-ask
returns-in_err-ask c =
    let p = err_from_is_err_and c.from_residual.result c.from_residual.ensures.1 in
    rw (p.1, p.2) (asked-wrong c.args.geometry c.args.reads.now c.args.replies.now c.loop-read.left.now c.in-Some.others.now c.loop-read.question c.ask.new.question c.loop-read.read-index _
    c.read-item.result c.in-Some-reply.reply c.in_err-ask.field-0.0 c.loop-read.invariant
    (drop_more c.args.reads.now c.loop-read.read-index c.read-item.result c.loop-read-test.true ∙ ap (λ r. r ∷ drop (c.loop-read.read-index + 1) c.args.reads.now) (sym c.read-item.is))
    (c.in-Some.ensures.cases.0 ∙ ap (λ r. r ∷ c.in-Some.others.now) c.in-Some-reply.is) refl c.in_err-ask.ensures)

pub loop-read-preserved : goal.loop-read-preserved
loop-read-preserved c = elim c.match-reply.branch [
  | in-Some-reply+in_ok-ask w ↦
      rw (w.question-is, w.left-is) (asked-one c.args.geometry c.args.reads.now c.args.replies.now c.loop-read.left.now c.in-Some.others.now c.loop-read.question w.ask.new.question c.loop-read.read-index _
      c.read-item.result w.in-Some-reply.reply c.loop-read.invariant
      (drop_more c.args.reads.now c.loop-read.read-index c.read-item.result c.loop-read-test.true ∙ ap (λ r. r ∷ drop (c.loop-read.read-index + 1) c.args.reads.now) (sym c.read-item.is))
      (c.in-Some.ensures.cases.0 ∙ ap (λ r. r ∷ c.in-Some.others.now) w.in-Some-reply.is) refl w.in_ok-ask.ensures)
  | in_default-reply w ↦
      rw (w.question-is, w.left-is) (asked-any c.args.geometry c.args.reads.now c.args.replies.now c.loop-read.left.now c.in-Some.others.now c.loop-read.question c.loop-read.read-index
      c.loop-read.invariant c.loop-read-test.true (c.in-Some.ensures.cases.0 ∙ ap (λ r. r ∷ c.in-Some.others.now) w.in_default-reply.is))
]
