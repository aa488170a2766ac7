use Rattle.std.proofs.Common.{None, Some, subst, sym}
use Rattle.reply_text.specs.Answer.Answer.{Refused as IsRefused}
use Rattle.reply_text.specs.declared.reply.Why.TheVariants.{Range}
use Rattle.script_text.specs.Action.{action_of}
use Rattle.machine_host.specs.Responding.{outcome_answer}
use Rattle.explorer.specs.declared.came.Came.TheVariants.{Done, Refused}
use Rattle.explorer.proofs.CauseLemmas.{was_cut_off, went_on}
use Rattle.explorer.proofs.PerformLemmas.{WasAnswered, none_armed, some_armed, was_all_done, was_not_done}
use Rattle.explorer.proofs.ReportLemmas.{reply_printable}
use Rattle.explorer.proofs.performing.refusal_of.Goals as goal

pub returns-then-calls-eq0-clause-done : goal.returns-then-calls-eq0-clause-done
returns-then-calls-eq0-clause-done g c = λ h stands ready.
    subst (λ command. WasAnswered h (action_of command) c.args.host.now (g.D.Lines.state c.args.device.now) (Some (IsRefused Range))) (sym c.in-CutIn.is)
    (none_armed h c.in-CutIn.calls c.args.host.now (g.D.Lines.state c.args.device.now) c.if-calls-eq0.true stands ready)

pub returns-in-CutIn-clause-done : goal.returns-in-CutIn-clause-done
returns-in-CutIn-clause-done g c = λ h stands ready.
    subst (λ command. WasAnswered h (action_of command) c.arm.new.host (g.D.Lines.state c.arm.new.device) None) (sym c.in-CutIn.is)
    (some_armed h c.in-CutIn.calls c.arm.new.host (g.D.Lines.state c.arm.new.device) c.if-calls-eq0.false (c.in_ok-arm.ensures.arms h stands ready) ready)

pub returns-in-Done-clause-done : goal.returns-in-Done-clause-done
returns-in-Done-clause-done g c = λ h stands ready.
    was_all_done h (action_of c.args.command.now) (outcome_answer c.answer.new.work c.in_ok-outcome.outcome) c.answer.new.self (g.D.Lines.state c.args.device.now)
    (g.D.Lines.state c.answer.new.device) c.requires.program ready (c.in_ok-outcome.ensures.step h stands) (c.in-Done.ensures c.answer.new.work)

pub returns-in-Refused-clause-done : goal.returns-in-Refused-clause-done
returns-in-Refused-clause-done g c = λ h stands ready.
    let answer = outcome_answer c.answer.new.work c.in_ok-outcome.outcome in
    let came = c.in-Refused.ensures c.answer.new.work in
    subst (WasAnswered h (action_of c.args.command.now) c.answer.new.self (g.D.Lines.state c.answer.new.device)) (sym (c.reply_in.ensures c.answer.new.work came))
    (was_not_done h (action_of c.args.command.now) answer c.answer.new.self (g.D.Lines.state c.args.device.now)
    (g.D.Lines.state c.answer.new.device) c.requires.program ready (c.in_ok-outcome.ensures.step h stands) came)

pub returns-in-Refused-clause-printable : goal.returns-in-Refused-clause-printable
returns-in-Refused-clause-printable g c =
    let came = c.in-Refused.ensures c.answer.new.work in
    reply_printable c.reply_in.result (outcome_answer c.answer.new.work c.in_ok-outcome.outcome) (c.reply_in.ensures c.answer.new.work came) came

pub returns-in-Done-clause-counts : goal.returns-in-Done-clause-counts
returns-in-Done-clause-counts g c =
    let known = c.requires.known in
    went_on c.answer.new.self known.state (action_of c.args.command.now) (outcome_answer c.answer.new.work c.in_ok-outcome.outcome) (g.D.Lines.state c.args.device.now)
    (g.D.Lines.state c.answer.new.device) (c.in_ok-outcome.ensures.step known.state known.stands) Done (c.in-Done.ensures c.answer.new.work) (λ e. cc e)

pub returns-in-Refused-clause-counts : goal.returns-in-Refused-clause-counts
returns-in-Refused-clause-counts g c =
    let known = c.requires.known in
    went_on c.answer.new.self known.state (action_of c.args.command.now) (outcome_answer c.answer.new.work c.in_ok-outcome.outcome) (g.D.Lines.state c.args.device.now)
    (g.D.Lines.state c.answer.new.device) (c.in_ok-outcome.ensures.step known.state known.stands) Refused (c.in-Refused.ensures c.answer.new.work) (λ e. cc e)

pub returns-in-Stopped-clause-cause : goal.returns-in-Stopped-clause-cause
returns-in-Stopped-clause-cause g c = λ is.
    let known = c.requires.known in
    was_cut_off c.answer.new.self known.state (action_of c.args.command.now) (outcome_answer c.answer.new.work c.in_ok-outcome.outcome) (g.D.Lines.state c.args.device.now)
    (g.D.Lines.state c.answer.new.device) (c.in_ok-outcome.ensures.step known.state known.stands) c.requires.program (c.in-Stopped.ensures c.answer.new.work)
