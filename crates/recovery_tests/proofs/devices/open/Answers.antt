use Rattle.std.proofs.lemmas.Result.{IfOk-weaker}
use Rattle.block_device.proofs.PlainLemmas.{names_durable}
use Rattle.recovery_tests.proofs.devices.open.Goals as goal

pub returns-clause-blocks : goal.returns-clause-blocks
returns-clause-blocks g c =
    let m = (g.D.Lines.state c.restart.new.self).medium in
    IfOk-weaker c.mount.result _ _
    (λ mounted is. is.blocks_serve (λ _. names_durable _ _ c.args.choice _ _ m (g.met.D.Lines.sound c.restart.new.self) c.switch_off.ensures.lines c.requires.end c.in-Ok.ensures.1.lines _))
    c.mount.ensures.mounted
