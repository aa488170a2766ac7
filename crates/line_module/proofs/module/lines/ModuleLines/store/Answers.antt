use Rattle.std.proofs.Common.{◌≡◌, sym, ◌∙◌, ap, subst}
use Rattle.line_device.specs.Medium.{WritesBack, stored}
use Rattle.line_module.specs.Memory.{Memory, memory_after_store}
use Rattle.line_module.specs.Cells.{cells_medium, memory_in}
use Rattle.line_module.proofs.MemoryLemmas.{write_back-memory_store, strong-cells, from_cells}
use Rattle.line_module.proofs.module.lines.ModuleLines.store.Goals as goal

pub returns-in-Some-clause-lines : goal.returns-in-Some-clause-lines
returns-in-Some-clause-lines c =
    let cells = c.in-Some.cells in
    let line = c.args.line.0 in
    let at = c.args.at in
    let bytes = c.args.bytes.now in
    let new : cells_medium c.store.new.self ≡ (memory_after_store (memory_in cells) line at bytes).medium = ap (λ (s : Memory). s.medium) c.store.ensures in
    from_cells c.args.self.now.cells cells (λ m. WritesBack (stored m line at bytes) (cells_medium c.store.new.self)) (sym c.reach.ensures.cells ∙ c.in-Some.is)
    (subst (WritesBack (stored (cells_medium cells) line at bytes)) (sym new) (write_back-memory_store (memory_in cells) line at bytes (strong-cells cells)))
