use Rattle.line_device.specs.Plain.{plain_medium}
use Rattle.line_device.proofs.CellsLemmas.{weakens_from-weakened}
use Rattle.line_device.proofs.plain.lines.PlainLines.weaken.Goals as goal

pub returns-clause-lines : goal.returns-clause-lines
returns-clause-lines c = weakens_from-weakened (plain_medium c.args.self.now) _ c.args.line.0 c.weaken.ensures
