use Rattle.std.proofs.Common.{ap, refl, subst, sym, ◌∙◌}
use Rattle.nvm_model.specs.Cell.{lose_cell}
use Rattle.scrub.specs.Refusals.{place_says}
use Rattle.reply_text.specs.Answer.{answer_of}
use Rattle.script_text.specs.Action.Action.{PoisonVolume}
use Rattle.machine_host.specs.Responding.{Answered}
use Rattle.machine_host.specs.Stands.{HostServes}
use Rattle.machine_host.proofs.CallLemmas.{on_refused-then}
use Rattle.machine_host.proofs.LineLemmas.{fate_poison, if_err_all, place_refuses, volume_line_answered}
use Rattle.machine_host.proofs.InsideLemmas.{left_of}
use Rattle.machine_host.proofs.host.Performer.poison_volume.Goals as goal

pub returns : goal.returns
returns g c =
    let host = left_of c.self.view_is in
    let old = g.D.Lines.state c.args.device.now in
    let new = g.D.Lines.state c.poison_volume-call.new.dev in
    let said = c.poison_volume-call.ensures.marks in
    let serves = subst (λ k. HostServes k old) (sym c.self.view_is) c.requires.serves in
    let on = ap (λ k. k.mode) c.self.view_is ∙ c.requires.on in
    subst (λ k. Answered (PoisonVolume c.args.offset) (answer_of c.marked.result) k k old new) c.self.view_is
    (volume_line_answered host old new serves on said.panel place_says lose_cell (PoisonVolume c.args.offset) c.args.offset c.poison_volume-call.result (answer_of c.marked.result) refl
    (λ h stands. fate_poison host old h c.args.offset serves stands on) said.refused (if_err_all c.poison_volume-call.result place_refuses)
    (on_refused-then _ c.poison_volume-call.result (λ same. ap g.D.Lines.state same) said.untouched) said.ok said.outside said.serves c.marked.ensures refl)
