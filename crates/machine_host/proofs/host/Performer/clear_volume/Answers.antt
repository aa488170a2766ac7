use Rattle.std.proofs.Common.{◌≡◌, ◌/◌, option_map, ap, refl, subst, sym, ◌∙◌, arith}
use Rattle.nvm_model.specs.Cell.{clear_cell}
use Rattle.nvm_model.specs.Page.{change_line}
use Rattle.marked_lines.specs.Refusals.{clear_refusal}
use Rattle.scrub.specs.Refusals.{scrub_says}
use Rattle.script_text.specs.Action.Action.{ClearVolume}
use Rattle.reply_text.specs.Answer.Answer.{Done}
use Rattle.machine_model.specs.Machine.Fate.{Works}
use Rattle.machine_model.specs.Commands.{fate, unless_refused}
use Rattle.machine_host.specs.Faults.{mode_after}
use Rattle.machine_model.specs.OnMedia.{line_answer}
use Rattle.machine_host.specs.Stands.{HostState, HostServes}
use Rattle.machine_host.proofs.CallLemmas.{on_refused-then}
use Rattle.machine_host.proofs.LineLemmas.{clear_called, fate_clear, scrub_part}
use Rattle.machine_host.proofs.VolumeCallLemmas.{of_pages, volume_pages, volume_sizes, work_answered}
use Rattle.machine_host.proofs.InsideLemmas.{left_of}
use Rattle.machine_host.proofs.host.Performer.clear_volume.Goals as goal

pub returns : goal.returns
returns g c =
    let now = c.args.self.now in
    let host = left_of c.self.view_is in
    let old = g.D.Lines.state c.args.device.now in
    let new = g.D.Lines.state c.clear_volume-call.new.dev in
    let said = c.clear_volume-call.ensures in
    let r = c.clear_volume-call.result in
    let serves = subst (λ k. HostServes k old) (sym c.self.view_is) c.requires.serves in
    let on = ap (λ k. k.mode) c.self.view_is ∙ c.requires.on in
    let untouched = on_refused-then scrub_says r (λ same. ap g.D.Lines.state same) said.untouched in
    work_answered scrub_says line_answer scrub_part now host _ host.volume r 1 0 old new c.self.view_is
    (c.cleared.ensures.state ∙ ap (λ (k : HostState). record k { mode = mode_after scrub_says r }) (sym c.self.view_is)) c.requires.on c.requires.serves (ClearVolume c.args.offset)
    (λ h stands. (omega arith, omega arith)) (λ h bs same. same)
    (clear_called host c.args.offset r old new serves on said.refused untouched said.images said.outside said.serves said.runs)
    _ (λ pages. clear_refusal host.volume.geo pages c.args.offset) (λ h. change_line clear_cell (c.args.offset / 64) h.volume) refl
    (λ h stands.
    let sizes = volume_sizes now host old h c.self.view_is c.requires.on c.requires.serves stands in
    subst (λ geo. fate h (ClearVolume c.args.offset) ≡ unless_refused h (option_map line_answer (clear_refusal geo h.volume c.args.offset)) (Works Done (record h { volume = change_line clear_cell (c.args.offset / 64) h.volume })))
    (sym sizes) (fate_clear now old h c.args.offset c.requires.serves stands c.requires.on))
    (λ h stands. said.refused h.volume (volume_pages now host old h c.self.view_is c.requires.on c.requires.serves stands))
    (λ h stands. of_pages _ _ _ _ _ (change_line clear_cell (c.args.offset / 64)) h.volume said.ok (volume_pages now host old h c.self.view_is c.requires.on c.requires.serves stands))
    c.cleared.ensures.answer tt
