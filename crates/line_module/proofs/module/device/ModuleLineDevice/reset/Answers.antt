use Rattle.std.proofs.Common.{ap}
use Rattle.line_device.specs.Medium.{zeros}
use Rattle.line_device.proofs.WriteBackLemmas.{write_back_same}
use Rattle.line_module.specs.Memory.{Memory}
use Rattle.line_module.specs.Cells.{cells_medium}
use Rattle.line_module.proofs.module.device.ModuleLineDevice.reset.Goals as goal

pub returns-in-Ok-clause-lines : goal.returns-in-Ok-clause-lines
returns-in-Ok-clause-lines c = write_back_same (zeros c.args.lines) (cells_medium c.in-Ok.cells) (ap (λ (s : Memory). s.medium) c.in-Ok.ensures)
