use Rattle.std.proofs.Common.{refl, sym, arith, ◌∙◌}
use Rattle.nvm_model.specs.Page.{discard}
use Rattle.pm_volume.specs.Refusals.{discard_refusal, volume_says}
use Rattle.machine_model.specs.OnVolume.{volume_answer}
use Rattle.script_text.specs.Action.Action.{VDiscardIf}
use Rattle.machine_host.proofs.VolumeCallLemmas.{volume_part, meta_seen, presence_seen, of_pages, volume_called, volume_pages, volume_sizes, work_answered}
use Rattle.machine_host.proofs.VolumeFateLemmas.{fate_vdiscardif}
use Rattle.machine_host.proofs.InsideLemmas.{left_of}
use Rattle.machine_host.proofs.host.Performer.vdiscardif.Goals as goal

pub returns : goal.returns
returns g c =
    let said = c.discard_hint-call.ensures in
    let now = c.args.self.now in
    let host = left_of c.self.view_is in
    let old = g.D.Lines.state c.args.device.now in
    let v = host.volume in
    work_answered volume_says volume_answer volume_part now host _ _ c.discard_hint-call.result _ _ old _ c.self.view_is c.volume_answer.ensures.state c.requires.on c.requires.serves (VDiscardIf c.args.page c.args.count)
    (λ h stands. (omega arith, omega arith)) (λ h bs same. same)
    (volume_called g.D.Lines.state host _ _ _ c.discard_hint-call.result _ _ _ _ said.changes)
    _ (λ pages. discard_refusal v old.medium c.args.page c.args.count) (λ h. discard c.args.page c.args.count h.volume) refl
    (λ h stands. fate_vdiscardif h v (sym stands.mode ∙ c.requires.on) (volume_sizes now host old h c.self.view_is c.requires.on c.requires.serves stands)
    old.medium (meta_seen now host old h c.self.view_is c.requires.on c.requires.serves stands) (presence_seen now host old h c.self.view_is c.requires.on c.requires.serves stands) c.args.page c.args.count)
    (λ h stands. said.refused)
    (λ h stands. of_pages _ _ _ _ _ (discard c.args.page c.args.count) h.volume said.changes.ok (volume_pages now host old h c.self.view_is c.requires.on c.requires.serves stands))
    c.volume_answer.ensures.answer tt
