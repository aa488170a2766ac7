use Rattle.std.proofs.Common.{ap, refl, ◌∙◌, arith}
use Rattle.machine_host.proofs.ElsewhereLemmas.{serves_ordered}
use Rattle.machine_host.proofs.StepLemmas.{comes_of_fail_in, comes_placed}
use Rattle.machine_model.proofs.RefusalLemmas.{always_allowed, calls_right}
use Rattle.script_text.specs.Action.Action.{FailIn}
use Rattle.reply_text.specs.Answer.Answer.{Done}
use Rattle.machine_host.proofs.host.Performer.fail_in.Goals as goal

pub returns : goal.returns
returns g c = record {
  step = λ h stands. comes_placed c.args.self.now c.args.self.now _ _ h (FailIn c.args.calls) Done stands (always_allowed c.args.self.now.mode) refl (calls_right _ c.requires.some)
      (comes_of_fail_in c.args.self.now _ _ h c.args.calls stands c.requires.serves c.arm_fail.ensures.lines c.arm_fail.ensures.panel);
  keeps = c.arm_fail.ensures.lines;
  printable = tt;
  room = omega arith;
  serves = serves_ordered c.args.self.now c.args.self.now.mode _ _ c.requires.serves c.arm_fail.ensures.lines (ap (λ p. p.power) c.arm_fail.ensures.panel ∙ c.requires.serves.power) (λ on. on) (λ stop. stop);
}
