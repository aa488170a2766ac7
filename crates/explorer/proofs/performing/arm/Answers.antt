use Rattle.std.proofs.Common.{refl, subst}
use Rattle.script_text.specs.Action.Action.{CutIn}
use Rattle.machine_host.specs.Responding.{outcome_answer}
use Rattle.machine_host.specs.Stands.{Stands}
use Rattle.explorer.specs.declared.came.Came.TheVariants.{Done}
use Rattle.explorer.proofs.CauseLemmas.{unarmed, went_on}
use Rattle.explorer.proofs.ComesLemmas.{came_to, was_done}
use Rattle.explorer.proofs.performing.arm.Goals as goal

pub returns-in-Done-clause-arms : goal.returns-in-Done-clause-arms
returns-in-Done-clause-arms g c = λ h stands ready.
    let comes = c.in_ok-answer.ensures.step h stands in
    let answer = outcome_answer c.answer.new.work c.in_ok-answer.field-0 in
    let came = was_done h (CutIn 4294967295) answer comes.next
    (came_to c.answer.new.self h (CutIn 4294967295) answer (g.D.Lines.state c.args.device.now) (g.D.Lines.state c.answer.new.device) refl comes)
    (c.in-Done.ensures c.answer.new.work) in
    subst (Stands c.answer.new.self (g.D.Lines.state c.answer.new.device)) came.1 comes.stands

pub returns-in-Done-clause-counts : goal.returns-in-Done-clause-counts
returns-in-Done-clause-counts g c =
    let known = c.requires.known in
    went_on c.answer.new.self known.state (CutIn 4294967295) (outcome_answer c.answer.new.work c.in_ok-answer.field-0) (g.D.Lines.state c.args.device.now) (g.D.Lines.state c.answer.new.device)
    (c.in_ok-answer.ensures.step known.state known.stands) Done (c.in-Done.ensures c.answer.new.work) (λ e. cc e)

pub returns-clause-cause : goal.returns-clause-cause
returns-clause-cause g c = λ is.
    let known = c.requires.known in
    unarmed c.answer.new.self known.state 4294967295 (outcome_answer c.answer.new.work c.in_ok-answer.field-0) (g.D.Lines.state c.args.device.now) (g.D.Lines.state c.answer.new.device)
    (c.in_ok-answer.ensures.step known.state known.stands) (λ e. cc e) c.of.result (c.of.ensures c.answer.new.work) c.in-Refused.is
