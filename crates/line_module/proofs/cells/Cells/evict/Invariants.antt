use Rattle.std.proofs.Common.{◌≡◌, ◌-◌}
use Rattle.line_module.specs.Memory.{memory_after_evict}
use Rattle.line_module.specs.Cells.{memory_in}
use Rattle.line_module.proofs.cells.Cells.evict.Given as goal

abbrev pub invariant-loop : goal.invariant-loop
invariant-loop l = memory_after_evict (memory_in l.self) (l.lines - l.counter) ≡ memory_after_evict (memory_in l.fn.self) l.lines
