use Rattle.std.proofs.Common.{◌≡◌, Some, arith, subst, sym}
use Rattle.std.proofs.lemmas.Result.{IfOk-weaker}
use Rattle.script_text.specs.Action.{action_of}
use Rattle.machine_model.specs.Commands.{early_refusal, meaning}
use Rattle.machine_model.specs.Lines.{bad_metadata}
use Rattle.machine_host.specs.Stands.{HostState}
use Rattle.reply_text.specs.Answer.{answer_of}
use Rattle.machine_host.proofs.StepLemmas.{comes_of_refusal, leaves_all, on_err, on_err-with}
use Rattle.machine_model.proofs.RefusalLemmas.{early_plain}
use Rattle.machine_host.proofs.WantingLemmas.{no_error, wanted}
use Rattle.machine_host.proofs.host.Host.step.Goals as goal
use Rattle.machine_host.proofs.KeepLemmas.{early_refuses, keeps_refused}

pub print-requires : goal.print-requires
print-requires g c = record { printable = (early_plain _ _ _ (action_of c.args.command.now) (answer_of c.in-Some.reply) (sym c.in-Some.ensures)).printable }

pub returns-in-Some-clause-step : goal.returns-in-Some-clause-step
returns-in-Some-clause-step g c =
    let bad = (g.D.Lines.state c.args.device.now).medium.is_bad in
    let refused =
    subst (λ (k : HostState). early_refusal k.mode (bad_metadata k.geometry bad) k.geometry (action_of c.args.command.now) ≡ Some (answer_of c.in-Some.reply)) c.self.view_is
    (sym c.in-Some.ensures) in
    IfOk-weaker c.print.result _ _ (λ _ line h stands. record {
      answer = answer_of c.in-Some.reply;
      comes = comes_of_refusal c.args.self.now _ h (action_of c.args.command.now) (answer_of c.in-Some.reply) stands refused;
      keeps = keeps_refused (answer_of c.in-Some.reply) (action_of c.args.command.now) c.args.self.now _ (early_refuses _ _ _ (action_of c.args.command.now) (answer_of c.in-Some.reply) refused);
      line = line;
    }) c.print.ensures.ok

pub returns-in_err-reserve-clause-memory : goal.returns-in_err-reserve-clause-memory
returns-in_err-reserve-clause-memory g c =
    on_err c.from_residual.result
    (c.reserve.ensures.items, leaves_all (meaning (action_of c.args.command.now)).starved c.args.self.now (g.D.Lines.state c.args.device.now))

pub returns-in-Some-clause-memory : goal.returns-in-Some-clause-memory
returns-in-Some-clause-memory g c =
    on_err-with _ c.print.result c.print.ensures.err
    (leaves_all (meaning (action_of c.args.command.now)).starved c.args.self.now (g.D.Lines.state c.args.device.now))

pub returns-in-Some-clause-spare : goal.returns-in-Some-clause-spare
returns-in-Some-clause-spare g c = λ much.
    let plain = early_plain _ _ _ (action_of c.args.command.now) (answer_of c.in-Some.reply) (sym c.in-Some.ensures) in
    no_error _ c.print.result (c.print.ensures.succeeds (omega (arith, plain.short, much)))

pub returns-in_err-reserve-clause-spare : goal.returns-in_err-reserve-clause-spare
returns-in_err-reserve-clause-spare g c = λ much.
    on_err c.from_residual.result
    (wanted _ _ _ (action_of c.args.command.now) (sym c.in_default.ensures) _ _ c.longest_reply.ensures much c.in_err-reserve.ensures.succeeds)
