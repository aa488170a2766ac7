use Rattle.std.proofs.Common.{◌≡◌, Some, subst, sym}
use Rattle.script_text.specs.Action.{action_of}
use Rattle.machine_model.specs.Commands.{early_refusal}
use Rattle.machine_model.specs.Lines.{bad_metadata}
use Rattle.machine_host.specs.Stands.{HostState}
use Rattle.reply_text.specs.Answer.{answer_of}
use Rattle.machine_host.proofs.StepLemmas.{comes_of_refusal}
use Rattle.machine_host.proofs.host.Host.answer.Goals as goal
use Rattle.machine_host.proofs.KeepLemmas.{early_refuses, keeps_refused}

pub returns-in-Some-clause-step : goal.returns-in-Some-clause-step
returns-in-Some-clause-step g c = λ h stands.
    let bad = (g.D.Lines.state c.args.device.now).medium.is_bad in
    let refused =
    subst (λ (k : HostState). early_refusal k.mode (bad_metadata k.geometry bad) k.geometry (action_of c.args.command.now) ≡ Some (answer_of c.in-Some.reply)) c.self.view_is
    (sym c.in-Some.ensures) in
    comes_of_refusal c.args.self.now _ h (action_of c.args.command.now) (answer_of c.in-Some.reply) stands refused

pub returns-in-Some-clause-keeps : goal.returns-in-Some-clause-keeps
returns-in-Some-clause-keeps g c =
    keeps_refused (answer_of c.in-Some.reply) (action_of c.args.command.now) c.args.self.now _
    (early_refuses _ _ _ (action_of c.args.command.now) (answer_of c.in-Some.reply) (sym c.in-Some.ensures))
