use Rattle.std.proofs.Common.{ap, refl, subst, sym, ◌∙◌, arith}
use Rattle.script_text.specs.Action.Action.{Cut}
use Rattle.reply_text.specs.Answer.Answer.{Done}
use Rattle.machine_model.specs.declared.mode.Mode.TheVariants.{Off}
use Rattle.machine_host.specs.Responding.{Answered}
use Rattle.machine_host.specs.Stands.{HostServes}
use Rattle.machine_host.proofs.ElsewhereLemmas.{serves_ordered}
use Rattle.machine_host.proofs.StepLemmas.{comes_of_cut, comes_placed}
use Rattle.machine_model.proofs.RefusalLemmas.{power_allows}
use Rattle.machine_host.proofs.InsideLemmas.{left_of}
use Rattle.machine_host.proofs.host.Performer.cut.Goals as goal

pub returns : goal.returns
returns g c =
    let host = left_of c.self.view_is in
    let old = (g.D.Lines.state c.args.device.now) in
    let new = (g.D.Lines.state c.power_off.new.self) in
    let said = c.power_off.ensures in
    let serves = subst (λ host. HostServes host old) (sym c.self.view_is) c.requires.serves in
    subst (λ k. Answered Cut Done k (record host { mode = Off }) old new) c.self.view_is (record {
      step = λ h stands. comes_placed host _ old new h Cut Done stands (λ bad_meta. power_allows c.self.inside.mode bad_meta (λ off. c.requires.powered (sym (ap (λ k. k.mode) c.self.view_is) ∙ off))) refl refl
          (comes_of_cut host old new h stands serves said.lines said.panel);
      keeps = said.lines;
      printable = tt;
      room = omega arith;
      serves = serves_ordered host Off old new serves said.lines (ap (λ p. p.power) said.panel) (λ on. cc) (λ stop. cc stop);
    })
