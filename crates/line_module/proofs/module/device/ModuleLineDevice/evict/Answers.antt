use Rattle.std.proofs.Common.{◌≡◌, refl, sym, ◌∙◌, ap, subst}
use Rattle.line_device.specs.Medium.{WritesBack}
use Rattle.line_module.specs.Memory.{Memory, memory_after_evict, memory_after_reset}
use Rattle.line_module.specs.Cells.{cells_medium, memory_in}
use Rattle.line_module.specs.Module.{memory_held}
use Rattle.line_module.proofs.WayLemmas.{memory_after_evict-none}
use Rattle.line_module.proofs.MemoryLemmas.{write_back-memory_evict, strong-cells, from_cells}
use Rattle.line_module.proofs.module.device.ModuleLineDevice.evict.Goals as goal

pub returns-in-Some-clause-lines : goal.returns-in-Some-clause-lines
returns-in-Some-clause-lines c =
    let cells = c.in-Some.cells in
    let new : cells_medium c.evict.new.self ≡ (memory_after_evict (memory_in cells) c.args.lines).medium = ap (λ (s : Memory). s.medium) c.evict.ensures in
    from_cells c.args.self.now.cells cells (λ m. WritesBack m (cells_medium c.evict.new.self)) c.in-Some.is
    (subst (WritesBack (cells_medium cells)) (sym new) (write_back-memory_evict (memory_in cells) c.args.lines (strong-cells cells)))

pub returns-in-None-clause-exactly : goal.returns-in-None-clause-exactly
returns-in-None-clause-exactly c =
    ap memory_held c.in-None.is ∙ sym (memory_after_evict-none (memory_after_reset 0) c.args.lines refl) ∙ sym (ap (λ k. memory_after_evict (memory_held k) c.args.lines) c.in-None.is)
