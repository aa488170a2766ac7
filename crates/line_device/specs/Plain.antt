-- A device of memory that never writes back by itself.
use Rattle.std.specs.Prelude.{◌≡◌}
use Rattle.line_device.specs.Medium.{Medium}
use Rattle.line_device.specs.Device.{Device}
use Rattle.line_device.specs.Cells.{medium_of}
use Rattle.line_device.specs.Switches.{panel_of, after_call}
use Rattle.line_device.specs.declared.switches.Switches.{Switches}
use Rattle.line_device.specs.declared.plain.Plain.{Plain}

-- its power, what is armed, and its counts
abbrev pub switches_of : Plain → Switches
switches_of p = p.switches

-- its lines, and what it shows beside them
abbrev pub device_of : Plain → Device
device_of p = record { medium = medium_of p.cells; panel = panel_of p.switches }

-- its lines
abbrev pub plain_medium : Plain → Medium
plain_medium p = medium_of p.cells

-- a counted call that leaves the lines
abbrev pub OnlyCounts : Plain → Plain → Type 0
OnlyCounts old new = (plain_medium new ≡ plain_medium old) × (switches_of new ≡ after_call (switches_of old))
