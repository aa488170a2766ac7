use Rattle.std.proofs.Common.{subst}
use Rattle.line_device.specs.Panel.{Runs}
use Rattle.machine_model.specs.Costs.{mount_calls, mount_persists}
use Rattle.machine_host.proofs.MountLemmas.{line_zero, mount_within}
use Rattle.machine_host.proofs.SettlingLemmas.{never_failed, never_lost, never_stopped, settled_taken, stops}
use Rattle.machine_host.proofs.host.Performer.mount_anew.Goals as goal

pub mount-requires-clause-some : goal.mount-requires-clause-some
mount-requires-clause-some g c = line_zero c.args.self.now.geometry _ c.requires.serves.layout

pub stop-requires-clause-went : goal.stop-requires-clause-went
stop-requires-clause-went g c = never_failed c.in-Err.fault _ _ c.requires.quiet c.in-Err.ensures.runs

pub stop-requires-clause-powered : goal.stop-requires-clause-powered
stop-requires-clause-powered g c = never_lost c.in-Err.fault _ _ c.requires.quiet c.in-Err.ensures.runs

pub returns-in-Ok : goal.returns-in-Ok
returns-in-Ok g c =
    let old = (g.D.Lines.state c.args.device.now) in
    let new = (g.D.Lines.state c.mount.new.dev) in
    let x = c.in-Ok.ensures in
    settled_taken c.args.self.now old new c.requires.serves c.requires.unsettled c.requires.quiet (g.met.D.Lines.sound c.args.device.now)
    x.leaves (mount_within old.medium _ old.panel new.panel x.runs)
    c.take.new.self c.in-Ok.mounted x.finds x.mounted c.take.ensures

pub returns-in-Err : goal.returns-in-Err
returns-in-Err g c =
    let old = (g.D.Lines.state c.args.device.now) in
    let new = (g.D.Lines.state c.mount.new.dev) in
    let x = c.in-Err.ensures in
    let runs = mount_within old.medium _ old.panel new.panel x.runs in
    stops c.args.self.now old new c.requires.serves c.requires.unsettled c.requires.quiet (g.met.D.Lines.sound c.args.device.now)
    x.leaves
    (subst (λ end. Runs mount_calls mount_persists end old.panel new.panel) (never_stopped c.in-Err.fault old.panel new.panel c.requires.quiet runs) runs)
    c.in-Err.fault x.finds c.stop.new.self c.stop.result c.stop.ensures
