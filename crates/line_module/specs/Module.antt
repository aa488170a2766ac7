-- A module as a device.
use Rattle.std.specs.Prelude.{◌≡◌, false, Option, Some, None}
use Rattle.line_device.specs.Medium.{Medium}
use Rattle.line_device.specs.Panel.{Panel}
use Rattle.line_device.specs.Device.{Device}
use Rattle.line_device.specs.Switches.{panel_of, after_call}
use Rattle.line_device.specs.declared.switches.Switches.{Switches}
use Rattle.line_module.specs.Memory.{Memory, memory_after_reset}
use Rattle.line_module.specs.Cells.{memory_in}
use Rattle.line_module.specs.declared.cells.Cells.{Cells}
use Rattle.line_module.specs.declared.module.Module.{Module}

-- before the first reset there are no lines
abbrev pub memory_held : Option Cells → Memory
memory_held None = memory_after_reset 0
memory_held (Some cells) = memory_in cells

-- what it holds of its lines
abbrev pub module_cells : Module → Option Cells
module_cells m = m.cells

-- its lines, and which are dirty
abbrev pub memory_of : Module → Memory
memory_of m = memory_held m.cells

-- its lines alone
abbrev pub module_medium : Module → Medium
module_medium m = (memory_of m).medium

-- its power, what is armed, and its counts
abbrev pub module_switches : Module → Switches
module_switches m = m.switches

-- its lines, and what it shows beside them
abbrev pub module_device : Module → Device
module_device m = record { medium = module_medium m; panel = panel_of m.switches }

-- a counted call that leaves the lines
abbrev pub LeavesMemory : Module → Module → Type 0
LeavesMemory old new = (memory_of new ≡ memory_of old) × (module_switches new ≡ after_call (module_switches old))

-- neither a cut nor a failure is armed
pub record IsUnarmed (panel : Panel) : Type 0 where
  pub cut : panel.cut_armed ≡ false
  pub fail : panel.fail_armed ≡ false
