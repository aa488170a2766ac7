use Rattle.std.proofs.Common.{◌≡◌, ap}
use Rattle.line_device.specs.Medium.{WritesBack, cleared}
use Rattle.line_module.specs.Memory.{Memory}
use Rattle.std.proofs.lemmas.Result.{err_from_is_err_and}
use Rattle.line_module.specs.Module.{module_medium}
use Rattle.line_module.specs.Cells.{cells_medium}
use Rattle.line_device.proofs.WriteBackLemmas.{write_back_same, write_back-refl}
use Rattle.line_module.proofs.MemoryLemmas.{from_cells}
use Rattle.line_module.proofs.module.lines.ModuleLines.clear.Goals as goal

pub returns-in_err-count_call-clause-lines : goal.returns-in_err-count_call-clause-lines
returns-in_err-count_call-clause-lines c = let p = err_from_is_err_and c.from_residual.result c.from_residual.ensures.1 in rw p.1 (write_back-refl (module_medium c.args.self.now))

pub returns-in-Some-clause-lines : goal.returns-in-Some-clause-lines
returns-in-Some-clause-lines c =
    let cells = c.in-Some.cells in
    let line = c.args.line.0 in
    let new : cells_medium c.clear.new.self ≡ cleared (cells_medium cells) line = ap (λ (s : Memory). s.medium) c.clear.ensures in
    from_cells c.args.self.now.cells cells (λ m. WritesBack (cleared m line) (cells_medium c.clear.new.self)) c.in-Some.is (write_back_same (cleared (cells_medium cells) line) (cells_medium c.clear.new.self) new)
