-- A module's memory, read off what it holds.
use Rattle.line_device.specs.Medium.{Medium}
use Rattle.line_module.specs.Memory.{Memory}
use Rattle.line_module.specs.Held.{lines_in}
use Rattle.line_module.specs.declared.cells.Cells.{Cells}

-- the lines
abbrev pub cells_medium : Cells → Medium
cells_medium c = lines_in c.durable c.states.items

-- the lines and the order
abbrev pub memory_in : Cells → Memory
memory_in c = record { medium = cells_medium c; order = c.order }
