use Rattle.std.proofs.Common.{ap, sym, subst, ◌∙◌}
use Rattle.std.proofs.lemmas.Result.{err_from_is_err_and}
use Rattle.machine_host.specs.Settling.{Settles}
use Rattle.machine_host.specs.Stands.{HostServes}
use Rattle.machine_host.proofs.SettlingLemmas.{left_waiting, settles_back}
use Rattle.line_device.specs.declared.line.Choice.TheVariants.{Lasts}
use Rattle.machine_host.proofs.RestartLemmas.{serves_back}
use Rattle.machine_host.proofs.InsideLemmas.{left_of}
use Rattle.machine_host.proofs.host.Performer.bring_back.Goals as goal

pub returns-in_err-restart : goal.returns-in_err-restart
returns-in_err-restart g c =
    let p = err_from_is_err_and c.from_residual.result c.from_residual.ensures.1 in
    rw p.1 (left_waiting c.args.self.now _ _ c.requires.serves c.requires.off c.requires.quiet c.in_err-restart.ensures)

pub returns : goal.returns
returns g c =
    let host = left_of c.self.view_is in
    let old = (g.D.Lines.state c.args.device.now) in
    let mid = (g.D.Lines.state c.restart.new.self) in
    let new = (g.D.Lines.state c.mount_anew.new.device) in
    let left = c.in_ok-restart.ensures in
    subst (λ k. Settles c.mount_anew.result k c.mount_anew.new.self old new) c.self.view_is
    (settles_back host old mid new left.0 (subst (λ k. HostServes k old) (sym c.self.view_is) c.requires.serves) (ap (λ k. k.mode) c.self.view_is ∙ c.requires.off) c.requires.quiet left.1
    (g.met.D.Lines.sound c.args.device.now) (g.met.D.Lines.sound c.restart.new.self) c.mount_anew.result c.mount_anew.new.self c.mount_anew.ensures)

pub mount_anew-requires-clause-serves : goal.mount_anew-requires-clause-serves
mount_anew-requires-clause-serves g c =
    let host = left_of c.self.view_is in
    let old = (g.D.Lines.state c.args.device.now) in
    let left = c.in_ok-restart.ensures in
    serves_back host Lasts old (g.D.Lines.state c.restart.new.self) left.0 (subst (λ k. HostServes k old) (sym c.self.view_is) c.requires.serves) left.1 (g.met.D.Lines.sound c.args.device.now) (g.met.D.Lines.sound c.restart.new.self)
