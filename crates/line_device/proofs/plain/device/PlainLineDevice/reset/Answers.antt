use Rattle.line_device.specs.Medium.{zeros}
use Rattle.line_device.proofs.WriteBackLemmas.{write_back_same}
use Rattle.line_device.proofs.plain.device.PlainLineDevice.reset.Goals as goal

pub returns-in-Ok-clause-lines : goal.returns-in-Ok-clause-lines
returns-in-Ok-clause-lines c = write_back_same (zeros c.args.lines) _ c.in-Ok.ensures.ok
