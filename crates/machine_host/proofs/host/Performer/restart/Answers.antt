use Rattle.std.proofs.Common.{inl, inr, refl}
use Rattle.std.proofs.lemmas.Result.{err_from_is_err_and}
use Rattle.reply_text.specs.Answer.{answer_of}
use Rattle.script_text.specs.Action.Action.{Restart}
use Rattle.machine_host.specs.Responding.{Answered}
use Rattle.machine_host.proofs.MountLemmas.{durable_flushed, flushed-restarted, line_zero, mount_within}
use Rattle.machine_host.proofs.RestartAnswerLemmas.{mount_done, restart_answered, restart_unmounted}
use Rattle.machine_host.proofs.RestartLemmas.{serves_back, serves_waited}
use Rattle.machine_host.proofs.host.Performer.restart.Goals as goal
use Rattle.std.proofs.Common.{subst, sym}

pub returns-in_err-restart : goal.returns-in_err-restart
returns-in_err-restart g c =
    let p = err_from_is_err_and c.from_residual.result c.from_residual.ensures.1 in
    rw p.1 (record { leaves = inl (refl, inr c.in_err-restart.ensures); serves = serves_waited c.args.self.now _ _ c.requires.serves c.requires.off c.in_err-restart.ensures })

pub mount-requires-clause-some : goal.mount-requires-clause-some
mount-requires-clause-some g c =
    let left = c.in_ok-restart.ensures in
    line_zero c.args.self.now.geometry _
    (serves_back c.args.self.now c.args.choice _ _ left.0 c.requires.serves left.1 (g.met.D.Lines.sound c.args.device.now) (g.met.D.Lines.sound c.restart.new.self)).layout

pub mounted-requires-clause-blocks : goal.mounted-requires-clause-blocks
mounted-requires-clause-blocks g c =
    c.in-Ok.ensures.mounted.blocks_serve (durable_flushed _ (flushed-restarted _ c.args.choice _ _ (g.met.D.Lines.sound c.args.device.now) c.in_ok-restart.ensures.1.lines))

pub returns-in-Ok : goal.returns-in-Ok
returns-in-Ok g c =
    let now = c.args.self.now in
    let old = (g.D.Lines.state c.args.device.now) in
    let mid = (g.D.Lines.state c.restart.new.self) in
    let new = (g.D.Lines.state c.mount.new.dev) in
    let x = c.in-Ok.ensures in
    let left = c.in_ok-restart.ensures in
    let sound_old = g.met.D.Lines.sound c.args.device.now in
    let sound = g.met.D.Lines.sound c.restart.new.self in
    subst (λ k. Answered (Restart c.args.choice) (answer_of c.mounted.result) now k old new) (sym c.mounted.ensures.state)
    (restart_answered now c.args.choice old mid new left.0 c.requires.serves c.requires.off left.1 sound_old sound _ (answer_of c.mounted.result)
    (mount_done _ mid new (serves_back now c.args.choice old mid left.0 c.requires.serves left.1 sound_old sound) refl sound
    x.leaves
    c.in-Ok.mounted (answer_of c.mounted.result) (mount_within mid.medium _ mid.panel new.panel x.runs) x.finds x.mounted c.mounted.ensures.answer))

pub returns-in-Err : goal.returns-in-Err
returns-in-Err g c =
    let old = (g.D.Lines.state c.args.device.now) in
    let mid = (g.D.Lines.state c.restart.new.self) in
    let new = (g.D.Lines.state c.mount.new.dev) in
    let x = c.in-Err.ensures in
    let left = c.in_ok-restart.ensures in
    restart_unmounted c.args.self.now c.unmounted.new.self c.args.choice old mid new left.0 c.requires.serves c.requires.off left.1 (g.met.D.Lines.sound c.args.device.now) (g.met.D.Lines.sound c.restart.new.self)
    x.leaves c.in-Err.fault x.finds (mount_within mid.medium _ mid.panel new.panel x.runs) c.unmounted.ensures.state
    c.unmounted.result c.unmounted.ensures.answer
