use Rattle.std.proofs.Common.{◌≡◌, ap}
use Rattle.line_device.specs.Medium.{WritesBack, installed}
use Rattle.line_device.proofs.WriteBackLemmas.{write_back_same}
use Rattle.line_module.specs.Memory.{Memory}
use Rattle.line_module.specs.Cells.{cells_medium}
use Rattle.line_module.proofs.MemoryLemmas.{from_cells}
use Rattle.line_module.proofs.module.device.ModuleLineDevice.install.Goals as goal

pub returns-in-Ok-clause-lines : goal.returns-in-Ok-clause-lines
returns-in-Ok-clause-lines c =
    let cells = c.in-Some.cells in
    let line = c.args.line.0 in
    let told = c.args.told.now in
    let new : cells_medium c.install.new.self ≡ installed (cells_medium cells) line told = ap (λ (s : Memory). s.medium) c.in-Ok.ensures.memory in
    from_cells c.args.self.now.cells cells (λ m. WritesBack (installed m line told) (cells_medium c.install.new.self)) c.in-Some.is (write_back_same (installed (cells_medium cells) line told) (cells_medium c.install.new.self) new)
