use Rattle.std.proofs.Common.{subst, sym}
use Rattle.reply_text.specs.Answer.{answer_of}
use Rattle.script_text.specs.Action.Action.{Recover}
use Rattle.machine_host.specs.Responding.{Answered}
use Rattle.machine_host.proofs.MountLemmas.{line_zero, mount_within}
use Rattle.machine_host.proofs.MountEffectLemmas.{durable_mount, none_found}
use Rattle.machine_host.proofs.RestartAnswerLemmas.{mount_done, recover_answered, recover_unmounted}
use Rattle.machine_host.proofs.host.Performer.recover.Goals as goal

pub mount-requires-clause-some : goal.mount-requires-clause-some
mount-requires-clause-some g c = line_zero c.args.self.now.geometry _ c.requires.serves.layout

pub mounted-requires-clause-blocks : goal.mounted-requires-clause-blocks
mounted-requires-clause-blocks g c =
    let x = c.in-Ok.ensures in
    let layout = c.requires.serves.layout in
    let sound = g.met.D.Lines.sound c.args.device.now in
    x.mounted.blocks_serve (durable_mount c.args.self.now.geometry (g.D.Lines.state c.args.device.now) (g.D.Lines.state c.mount.new.dev) layout sound x.leaves c.requires.serves.readable (none_found c.args.self.now.geometry (g.D.Lines.state c.args.device.now) (g.D.Lines.state c.mount.new.dev) layout sound x.leaves x.finds))

pub returns-in-Ok : goal.returns-in-Ok
returns-in-Ok g c =
    let now = c.args.self.now in
    let old = (g.D.Lines.state c.args.device.now) in
    let new = (g.D.Lines.state c.mount.new.dev) in
    let x = c.in-Ok.ensures in
    subst (λ k. Answered Recover (answer_of c.mounted.result) now k old new) (sym c.mounted.ensures.state)
    (recover_answered now old new c.requires.unsettled _ (answer_of c.mounted.result)
    (mount_done now old new c.requires.serves c.requires.unsettled (g.met.D.Lines.sound c.args.device.now)
    x.leaves
    c.in-Ok.mounted (answer_of c.mounted.result) (mount_within old.medium _ old.panel new.panel x.runs) x.finds x.mounted c.mounted.ensures.answer))

pub returns-in-Err : goal.returns-in-Err
returns-in-Err g c =
    let old = (g.D.Lines.state c.args.device.now) in
    let new = (g.D.Lines.state c.mount.new.dev) in
    let x = c.in-Err.ensures in
    recover_unmounted c.args.self.now c.unmounted.new.self old new c.requires.serves c.requires.unsettled (g.met.D.Lines.sound c.args.device.now)
    x.leaves c.in-Err.fault x.finds (mount_within old.medium _ old.panel new.panel x.runs) c.unmounted.ensures.state
    c.unmounted.result c.unmounted.ensures.answer
