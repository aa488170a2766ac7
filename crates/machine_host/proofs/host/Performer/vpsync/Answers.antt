use Rattle.std.proofs.Common.{refl, sym, subst, ◌∙◌}
use Rattle.pm_volume.specs.Costs.{lines_there_at}
use Rattle.pm_volume.specs.Refusals.{physical_offset, physical_refusal, volume_says}
use Rattle.machine_model.specs.OnVolume.{volume_answer, persist_at}
use Rattle.script_text.specs.Action.Action.{VPSync}
use Rattle.machine_host.proofs.VolumeCallLemmas.{volume_part, counted_seen, of_pages, settled_was, volume_synced, volume_pages, volume_sizes, work_answered}
use Rattle.machine_host.proofs.VolumeFateLemmas.{fate_vpsync}
use Rattle.std.proofs.Common.{OnOk}
use Rattle.pm_volume.specs.Object.{VolumeHolds}
use Rattle.machine_host.proofs.InsideLemmas.{left_of}
use Rattle.machine_host.proofs.host.Performer.vpsync.Goals as goal

pub returns : goal.returns
returns g c =
    let said = c.physical_sync-call.ensures.syncs in
    let now = c.args.self.now in
    let host = left_of c.self.view_is in
    let old = g.D.Lines.state c.args.device.now in
    let new = g.D.Lines.state c.physical_sync-call.new.dev in
    let v = host.volume in
    work_answered volume_says volume_answer volume_part now host _ _ c.physical_sync-call.result _ _ old _ c.self.view_is c.volume_answer.ensures.state c.requires.on c.requires.serves (VPSync c.args.address c.args.len)
    (λ h stands.
    let few = counted_seen now host old h c.self.view_is c.requires.on c.requires.serves stands (λ geo there. lines_there_at geo there (physical_offset geo c.args.address c.args.len) c.args.len) in
    (few, few)) (λ h bs same. same)
    (volume_synced g.D.Lines.state host _ _ _ c.physical_sync-call.result _ (physical_offset v.geo c.args.address c.args.len) c.args.len (settled_was now host old c.self.view_is c.requires.on c.requires.serves) said)
    _ (λ pages. physical_refusal v pages c.args.address c.args.len) (λ h. persist_at (physical_offset h.geometry c.args.address c.args.len) c.args.len h.volume) refl
    (λ h stands. fate_vpsync h v (sym stands.mode ∙ c.requires.on) (volume_sizes now host old h c.self.view_is c.requires.on c.requires.serves stands) c.args.address c.args.len)
    (λ h stands. said.refused h.volume (volume_pages now host old h c.self.view_is c.requires.on c.requires.serves stands))
    (λ h stands.
    subst (λ geo. OnOk c.physical_sync-call.result (VolumeHolds c.physical_sync-call.new.self new.medium (persist_at (physical_offset geo c.args.address c.args.len) c.args.len h.volume)))
    (volume_sizes now host old h c.self.view_is c.requires.on c.requires.serves stands)
    (of_pages _ _ _ _ _ (persist_at (physical_offset v.geo c.args.address c.args.len) c.args.len) h.volume said.ok (volume_pages now host old h c.self.view_is c.requires.on c.requires.serves stands)))
    c.volume_answer.ensures.answer tt
