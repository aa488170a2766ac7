use Rattle.std.proofs.Common.{◌≡◌, ◌&&◌, [], false, ap, sym, ◌∙◌}
use Rattle.questions.specs.Asked.{answer_asked}
use Rattle.asked_reads.specs.Asking.{may_be_replies}
use Rattle.exploration.specs.Fitting.{has_refusal}
use Rattle.exploration.proofs.FitLemmas.{fits-all, fits-kind, fits-place, fits-refusal}
use Rattle.exploration.proofs.question.ask.Goals.{then-not-has_refusal-via-then-not-has_refusal, then-not-has_refusal-via-else-not-has_refusal+then-not-may_be_replies}
use Rattle.exploration.proofs.question.ask.Goals as goal

pub returns-in-Err : goal.returns-in-Err
returns-in-Err c = λ look is.
    rw c.of.ensures (fits-kind c.args.geometry c.args.number c.args.read.now (answer_asked c.args.reply.now) look [] c.add.new.question c.args.question.now c.in-Err.stop (c.in-Err.ensures [] c.no_reads-alone.ensures))

pub returns-then-not-has_place : goal.returns-then-not-has_place
returns-then-not-has_place c = λ look is.
    fits-place c.args.geometry c.args.number c.args.read.now (answer_asked c.args.reply.now) c.add.new.question (c.in_default.ensures [] c.no_reads-alone.ensures)
    (sym c.if-not-has_length.ensures) (sym c.if-not-has_place.ensures)

pub returns-then-not-has_refusal : goal.returns-then-not-has_refusal
returns-then-not-has_refusal c = λ look is.
    let refuses = has_refusal c.args.read.now (answer_asked c.args.reply.now) in
    let may = may_be_replies c.args.geometry c.add.new.question in
    let test : (refuses && may) ≡ false = elim c.then-not-has_refusal.branch [
      | then-not-has_refusal-via-then-not-has_refusal w ↦ ap (λ b. b && may) (sym w.if-not-has_refusal.ensures)
      | then-not-has_refusal-via-else-not-has_refusal+then-not-may_be_replies w ↦ ap (λ b. b && may) (sym w.if-not-has_refusal.ensures) ∙ sym w.if-not-may_be_replies.ensures
    ] in
    fits-refusal c.args.geometry c.args.number c.args.read.now (answer_asked c.args.reply.now) c.add.new.question (c.in_default.ensures [] c.no_reads-alone.ensures)
    (sym c.if-not-has_length.ensures) (sym c.if-not-has_place.ensures) test

pub returns-in-Ok : goal.returns-in-Ok
returns-in-Ok c = λ look is.
    let may = may_be_replies c.args.geometry c.add.new.question in
    fits-all c.args.geometry c.args.number c.args.read.now (answer_asked c.args.reply.now) c.add.new.question (c.in_default.ensures [] c.no_reads-alone.ensures) look c.add-2.new.question
    (sym c.if-not-has_length.ensures) (sym c.if-not-has_place.ensures)
    (ap (λ b. b && may) (sym c.if-not-has_refusal.ensures) ∙ sym c.if-not-may_be_replies.ensures) (c.in-Ok.ensures look is)
