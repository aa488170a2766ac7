use Rattle.std.proofs.Common.{length, refl, sym, ◌∙◌}
use Rattle.nvm_model.specs.Page.{fill, put}
use Rattle.pm_volume.specs.Costs.{store_calls, store_persists}
use Rattle.pm_volume.specs.Refusals.{store_refusal, volume_says}
use Rattle.machine_model.specs.OnVolume.{volume_answer}
use Rattle.script_text.specs.Action.Action.{VStore}
use Rattle.machine_host.proofs.VolumeCallLemmas.{volume_part, meta_seen, presence_seen, of_pages, counted_seen, volume_called, volume_pages, volume_sizes, work_answered}
use Rattle.machine_host.proofs.VolumeFateLemmas.{fate_vstore}
use Rattle.machine_host.proofs.InsideLemmas.{left_of}
use Rattle.machine_host.proofs.host.Performer.vstore.Goals as goal

pub returns : goal.returns
returns g c =
    let said = c.store-call.ensures in
    let now = c.args.self.now in
    let host = left_of c.self.view_is in
    let old = g.D.Lines.state c.args.device.now in
    let v = host.volume in
    let len = length c.args.bytes.now in
    work_answered volume_says volume_answer volume_part now host _ _ c.store-call.result _ _ old _ c.self.view_is c.volume_answer.ensures.state c.requires.on c.requires.serves (VStore c.args.offset c.args.bytes.now)
    (λ h stands.
    let seen = counted_seen now host old h c.self.view_is c.requires.on c.requires.serves stands in
    (seen (λ geo there. store_calls there c.args.offset len), seen (λ geo there. store_persists there c.args.offset len))) (λ h bs same. same)
    (volume_called g.D.Lines.state host _ _ _ c.store-call.result _ _ _ _ said.changes)
    _ (λ pages. store_refusal v old.medium pages c.args.offset len) (λ h. put c.args.offset c.args.bytes.now (fill c.args.offset len h.volume)) refl
    (λ h stands. fate_vstore h v (sym stands.mode ∙ c.requires.on) (volume_sizes now host old h c.self.view_is c.requires.on c.requires.serves stands)
    old.medium (meta_seen now host old h c.self.view_is c.requires.on c.requires.serves stands) (presence_seen now host old h c.self.view_is c.requires.on c.requires.serves stands) c.args.offset c.args.bytes.now)
    (λ h stands. said.refused h.volume (volume_pages now host old h c.self.view_is c.requires.on c.requires.serves stands))
    (λ h stands. of_pages _ _ _ _ _ (λ pages. put c.args.offset c.args.bytes.now (fill c.args.offset len pages)) h.volume said.changes.ok (volume_pages now host old h c.self.view_is c.requires.on c.requires.serves stands))
    c.volume_answer.ensures.answer tt
