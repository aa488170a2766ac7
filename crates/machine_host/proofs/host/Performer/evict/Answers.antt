use Rattle.std.proofs.Common.{ap, refl, ◌∙◌, arith}
use Rattle.machine_host.proofs.ElsewhereLemmas.{serves_ordered}
use Rattle.machine_host.proofs.StepLemmas.{comes_of_evict, comes_placed}
use Rattle.machine_model.proofs.RefusalLemmas.{usable_on}
use Rattle.script_text.specs.Action.Action.{Evict}
use Rattle.reply_text.specs.Answer.Answer.{Done}
use Rattle.machine_host.proofs.host.Performer.evict.Goals as goal

pub returns : goal.returns
returns g c = record {
  step = λ h stands. comes_placed c.args.self.now c.args.self.now _ _ h (Evict c.args.lines) Done stands (usable_on c.args.self.now.mode c.requires.on) refl refl
      (comes_of_evict c.args.self.now _ _ h c.args.lines stands c.requires.serves c.evict.ensures.lines c.evict.ensures.panel);
  keeps = c.evict.ensures.lines;
  printable = tt;
  room = omega arith;
  serves = serves_ordered c.args.self.now c.args.self.now.mode _ _ c.requires.serves c.evict.ensures.lines (ap (λ p. p.power) c.evict.ensures.panel ∙ c.requires.serves.power) (λ on. on) (λ stop. stop);
}
