use Rattle.line_device.specs.Medium.{poisoned}
use Rattle.line_device.specs.Plain.{plain_medium}
use Rattle.line_device.proofs.WriteBackLemmas.{write_back_same}
use Rattle.line_device.proofs.plain.lines.PlainLines.poison.Goals as goal

pub returns-clause-lines : goal.returns-clause-lines
returns-clause-lines c = write_back_same (poisoned (plain_medium c.args.self.now) c.args.line.0) _ c.poison.ensures
