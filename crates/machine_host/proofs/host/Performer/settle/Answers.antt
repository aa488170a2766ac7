use Rattle.std.proofs.Common.{◌≡◌, false, inl, inr, ap, sym, ◌∙◌}
use Rattle.machine_host.specs.Settling.{is_down}
use Rattle.machine_host.proofs.SettlingLemmas.{serves_disarmed, left_of_back, left_of_mount, settled_of_back, settled_of_mount, settled_on}
use Rattle.machine_host.proofs.host.Performer.settle.Goals as goal

pub returns-in-On-clause-settled : goal.returns-in-On-clause-settled
returns-in-On-clause-settled g c =
    settled_on c.args.self.now _ _ c.requires.serves c.disarm.ensures.lines c.disarm.ensures.panel
    (elim c.in-On.is as (λ _. is_down c.args.self.now.mode ≡ false) [
      | inl on ↦ ap is_down (sym (ap (λ k. k.mode) c.self.view_is) ∙ on)
      | inr stopped ↦ ap is_down (sym (ap (λ k. k.mode) c.self.view_is) ∙ stopped)
    ])

pub returns-in-Off-clause-settled : goal.returns-in-Off-clause-settled
returns-in-Off-clause-settled g c =
    settled_of_back c.args.self.now _ _ c.requires.serves c.disarm.ensures.lines c.disarm.ensures.panel c.bring_back.new.self _ c.bring_back.result c.bring_back.ensures

pub returns-in-Off-clause-memory : goal.returns-in-Off-clause-memory
returns-in-Off-clause-memory g c =
    left_of_back c.args.self.now _ _ c.requires.serves c.disarm.ensures.lines c.disarm.ensures.panel c.bring_back.new.self _ c.bring_back.result c.bring_back.ensures

pub returns-in-Unsettled-clause-settled : goal.returns-in-Unsettled-clause-settled
returns-in-Unsettled-clause-settled g c =
    settled_of_mount c.args.self.now _ _ c.requires.serves c.disarm.ensures.lines c.disarm.ensures.panel c.mount_anew.new.self _ c.mount_anew.result c.mount_anew.ensures

pub returns-in-Unsettled-clause-memory : goal.returns-in-Unsettled-clause-memory
returns-in-Unsettled-clause-memory g c =
    left_of_mount c.args.self.now _ _ c.requires.serves c.disarm.ensures.lines c.disarm.ensures.panel c.mount_anew.new.self _ c.mount_anew.result (sym (ap (λ k. k.mode) c.self.view_is) ∙ c.in-Unsettled.is) c.mount_anew.ensures

pub bring_back-requires-clause-serves : goal.bring_back-requires-clause-serves
bring_back-requires-clause-serves g c = serves_disarmed c.args.self.now _ _ c.requires.serves c.disarm.ensures.lines c.disarm.ensures.panel

pub mount_anew-requires-clause-serves : goal.mount_anew-requires-clause-serves
mount_anew-requires-clause-serves g c = serves_disarmed c.args.self.now _ _ c.requires.serves c.disarm.ensures.lines c.disarm.ensures.panel
