use Rattle.line_device.specs.Medium.{cleared}
use Rattle.line_device.specs.Plain.{plain_medium}
use Rattle.line_device.proofs.WriteBackLemmas.{write_back_same}
use Rattle.line_device.proofs.plain.lines.PlainLines.clear.Goals as goal

pub returns-clause-lines : goal.returns-clause-lines
returns-clause-lines c = write_back_same (cleared (plain_medium c.args.self.now) c.args.line.0) _ c.clear.ensures
