use Rattle.std.proofs.Common.{ap, refl, subst, sym, ◌∙◌, arith}
use Rattle.nvm_model.specs.Cell.{weaken_cell}
use Rattle.scrub.specs.Refusals.{weaken_says}
use Rattle.script_text.specs.Action.Action.{WeakenVolume}
use Rattle.machine_host.specs.Responding.{Answered}
use Rattle.machine_host.specs.Stands.{HostServes}
use Rattle.machine_host.proofs.CallLemmas.{on_refused-then}
use Rattle.machine_host.proofs.ElsewhereLemmas.{serves_ordered}
use Rattle.machine_host.proofs.LineLemmas.{fate_weaken, volume_line_answered}
use Rattle.machine_host.proofs.WeakenLemmas.{weaken_responds}
use Rattle.machine_host.proofs.InsideLemmas.{left_of}
use Rattle.machine_host.proofs.host.Performer.weaken_volume.Goals as goal

pub returns : goal.returns
returns g c =
    let host = left_of c.self.view_is in
    let old = g.D.Lines.state c.args.device.now in
    let new = g.D.Lines.state c.weaken_volume-call.new.dev in
    let said = c.weaken_volume-call.ensures.marks in
    let r = c.weaken_volume-call.result in
    let serves = subst (λ k. HostServes k old) (sym c.self.view_is) c.requires.serves in
    let on = ap (λ k. k.mode) c.self.view_is ∙ c.requires.on in
    weaken_responds (WeakenVolume c.args.offset) r c.weakened.result c.args.self.now c.args.self.now old new c.weakened.ensures
    (λ answer told is.
    subst (λ k. Answered (WeakenVolume c.args.offset) answer k k old new) c.self.view_is
    (volume_line_answered host old new serves on said.panel weaken_says weaken_cell (WeakenVolume c.args.offset) c.args.offset r answer refl
    (λ h stands. fate_weaken host old h c.args.offset serves stands on) said.refused told (on_refused-then weaken_says r (λ same. ap g.D.Lines.state same) said.untouched) said.ok said.outside said.serves is refl))
    (λ starved.
    let written = c.weaken_volume-call.ensures.memory starved in (
      (record { events = c.args.self.now.files.events; same = refl; items = refl; spare = omega arith }, written, said.panel),
      serves_ordered c.args.self.now c.args.self.now.mode _ _ c.requires.serves written (ap (λ p. p.power) said.panel ∙ c.requires.serves.power) (λ on. on) (λ stop. stop),
    ))
