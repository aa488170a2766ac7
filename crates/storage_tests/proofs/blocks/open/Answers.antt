use Rattle.line_device.specs.Medium.{last_image}
use Rattle.block_device.specs.Object.{AreDurable}
use Rattle.block_device.specs.Reading.{states_read}
use Rattle.block_device.proofs.PlainLemmas.{names_durable, served}
use Rattle.storage_tests.proofs.blocks.open.Goals as goal

pub returns-clause-serves : goal.returns-clause-serves
returns-clause-serves g c =
    let m = (g.D.Lines.state c.restart.new.self).medium in
    let geo = c.args.geo in
    served (AreDurable geo m (states_read geo (last_image m))) (g.D.Lines.state c.mount.new.dev).medium c.mount.result
    (names_durable geo _ c.args.choice _ _ m (g.met.D.Lines.sound c.restart.new.self) c.switch_off.ensures.lines c.requires.end c.in_ok-restart.ensures.1.lines (states_read geo (last_image m))) c.mount.ensures.serves
