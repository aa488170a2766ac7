use Rattle.std.proofs.Common.{◌≡◌, ap}
use Rattle.line_device.specs.Medium.{WritesBack, poisoned}
use Rattle.line_module.specs.Memory.{Memory}
use Rattle.line_module.specs.Cells.{cells_medium}
use Rattle.line_device.proofs.WriteBackLemmas.{write_back_same}
use Rattle.line_module.proofs.MemoryLemmas.{from_cells}
use Rattle.line_module.proofs.module.lines.ModuleLines.poison.Goals as goal

pub returns-in-Some-clause-lines : goal.returns-in-Some-clause-lines
returns-in-Some-clause-lines c =
    let cells = c.in-Some.cells in
    let line = c.args.line.0 in
    let new : cells_medium c.poison.new.self ≡ poisoned (cells_medium cells) line = ap (λ (s : Memory). s.medium) c.poison.ensures in
    from_cells c.args.self.now.cells cells (λ m. WritesBack (poisoned m line) (cells_medium c.poison.new.self)) c.in-Some.is (write_back_same (poisoned (cells_medium cells) line) (cells_medium c.poison.new.self) new)
