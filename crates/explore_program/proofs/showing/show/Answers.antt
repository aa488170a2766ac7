use Rattle.std.proofs.Common.{Ok, arith}
use Rattle.std.proofs.lemmas.Result.{err_from_is_err_and}
use Rattle.program_base.proofs.WritingLemmas.{told_front}
use Rattle.explore_program.proofs.CauseLemmas.{unanswered_write}
use Rattle.explore_program.proofs.showing.show.Goals as goal

pub returns-in_err-tell-clause-tells : goal.returns-in_err-tell-clause-tells
returns-in_err-tell-clause-tells g c =
    let p = err_from_is_err_and c.from_residual-in_err-tell.result c.from_residual-in_err-tell.ensures.1 in
    rw (p.1, p.2) (
      unanswered_write c.in_err-tell.field-0.0 (g.K.Sink.count c.args.answers.now) (g.K.Sink.count c.args.answers.now) (g.K.Sink.count c.tell.new.replies) (g.D.Lines.state c.args.device.now).panel (g.D.Lines.state c.asked.new.device).panel (omega arith) c.in_err-tell.ensures.cause,
      told_front {E = Unit {0}} (Ok c.in_ok-text.text) c.tell.result _ (g.K.Sink.written c.args.answers.now) (g.K.Sink.written c.tell.new.replies) c.in_ok-text.ensures.text c.tell.ensures.bytes,
    )
