use Rattle.std.proofs.Common.{Some, refl, sym, ◌∙◌}
use Rattle.nvm_model.specs.Page.{persist}
use Rattle.pm_volume.specs.Costs.{lines_there}
use Rattle.pm_volume.specs.Refusals.{sync_refusal, volume_says}
use Rattle.machine_model.specs.OnVolume.{volume_answer}
use Rattle.script_text.specs.Action.Action.{VSync}
use Rattle.machine_host.proofs.VolumeCallLemmas.{volume_part, counted_seen, of_pages, settled_was, volume_synced, volume_pages, volume_sizes, work_answered}
use Rattle.machine_host.proofs.VolumeFateLemmas.{fate_vsync}
use Rattle.machine_host.proofs.InsideLemmas.{left_of}
use Rattle.machine_host.proofs.host.Performer.vsync.Goals as goal

pub returns : goal.returns
returns g c =
    let said = c.sync-call.ensures.syncs in
    let now = c.args.self.now in
    let host = left_of c.self.view_is in
    let old = g.D.Lines.state c.args.device.now in
    let v = host.volume in
    work_answered volume_says volume_answer volume_part now host _ _ c.sync-call.result _ _ old _ c.self.view_is c.volume_answer.ensures.state c.requires.on c.requires.serves (VSync c.args.offset c.args.len)
    (λ h stands.
    let few = counted_seen now host old h c.self.view_is c.requires.on c.requires.serves stands (λ geo there. lines_there geo there c.args.offset c.args.len) in
    (few, few)) (λ h bs same. same)
    (volume_synced g.D.Lines.state host _ _ _ c.sync-call.result _ (Some c.args.offset) c.args.len (settled_was now host old c.self.view_is c.requires.on c.requires.serves) said)
    _ (λ pages. sync_refusal v pages c.args.offset c.args.len) (λ h. persist c.args.offset c.args.len h.volume) refl
    (λ h stands. fate_vsync h v (sym stands.mode ∙ c.requires.on) (volume_sizes now host old h c.self.view_is c.requires.on c.requires.serves stands) c.args.offset c.args.len)
    (λ h stands. said.refused h.volume (volume_pages now host old h c.self.view_is c.requires.on c.requires.serves stands))
    (λ h stands. of_pages _ _ _ _ _ (persist c.args.offset c.args.len) h.volume said.ok (volume_pages now host old h c.self.view_is c.requires.on c.requires.serves stands))
    c.volume_answer.ensures.answer tt
