use Rattle.std.proofs.Common.{◌≡◌, sym, ◌∙◌, ap}
use Rattle.line_device.specs.Medium.{WritesBack, persisted}
use Rattle.line_module.specs.Memory.{Memory}
use Rattle.line_module.specs.Cells.{cells_medium}
use Rattle.line_device.proofs.WriteBackLemmas.{write_back_same}
use Rattle.line_module.proofs.MemoryLemmas.{from_cells}
use Rattle.line_module.proofs.module.lines.ModuleLines.persist.Goals as goal

pub returns-in-Some-clause-lines : goal.returns-in-Some-clause-lines
returns-in-Some-clause-lines c =
    let cells = c.in-Some.cells in
    let line = c.args.line.0 in
    let new : cells_medium c.persist.new.self ≡ persisted (cells_medium cells) line = ap (λ (s : Memory). s.medium) c.persist.ensures in
    from_cells c.args.self.now.cells cells (λ m. WritesBack (persisted m line) (cells_medium c.persist.new.self)) (sym c.reach.ensures.cells ∙ c.in-Some.is) (write_back_same (persisted (cells_medium cells) line) (cells_medium c.persist.new.self) new)
