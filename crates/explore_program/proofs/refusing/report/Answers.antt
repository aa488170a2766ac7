use Rattle.std.proofs.Common.{Ok, ap, arith, ◌∙◌}
use Rattle.std.proofs.lemmas.Result.{err_from_is_err_and}
use Rattle.outcome_lists.specs.AskedReads.Program.{inputs_of_lines}
use Rattle.image_file.specs.Text.{snapshot_of}
use Rattle.program_base.specs.Opening.{opened}
use Rattle.program_base.proofs.WritingLemmas.{told_front}
use Rattle.explore_program.specs.Showing.{refusals}
use Rattle.explore_program.proofs.CauseLemmas.{unanswered_write}
use Rattle.explore_program.proofs.refusing.report.Goals as goal

pub returns-in_err-tell-clause-tells : goal.returns-in_err-tell-clause-tells
returns-in_err-tell-clause-tells g c =
    let p = err_from_is_err_and c.from_residual-in_err-tell.result c.from_residual-in_err-tell.ensures.1 in
    let h = opened (snapshot_of c.args.image.now) in
    let x = c.args.exploration.now in
    let text = c.in_ok-text.ensures.text
    ∙ ap (λ f. refusals h (inputs_of_lines f) (inputs_of_lines c.deref-2.result.now) c.deref-3.result.now) c.deref.ensures.value
    ∙ ap (λ lines. refusals h (inputs_of_lines x.first.items) (inputs_of_lines lines) c.deref-3.result.now) c.deref-2.ensures.value
    ∙ ap (λ wanted. refusals h (inputs_of_lines x.first.items) (inputs_of_lines x.program.items) wanted) c.deref-3.ensures.value in
    rw (p.1, p.2) (
      unanswered_write c.in_err-tell.field-0.0 (g.K.Sink.count c.args.answers.now) (g.K.Sink.count c.args.answers.now) (g.K.Sink.count c.tell.new.replies) (g.D.Lines.state c.args.device.now).panel (g.D.Lines.state c.refused.new.device).panel (omega arith) c.in_err-tell.ensures.cause,
      told_front {E = Unit {0}} (Ok c.in_ok-text.text) c.tell.result _ (g.K.Sink.written c.args.answers.now) (g.K.Sink.written c.tell.new.replies) text c.tell.ensures.bytes,
    )
