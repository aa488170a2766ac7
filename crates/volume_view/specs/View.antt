-- A borrowed device, of which some ranges are shown.
use Rattle.std.specs.Prelude.{ℕ, List, ◌∷◌}
use Rattle.std.specs.Borrow.{GName}
use Rattle.nvm_base.specs.declared.units.Span.{Span}
use Rattle.line_device.specs.Panel.{Panel}
use Rattle.line_device.specs.Device.{Device}
use Rattle.volume_view.specs.Shown.{shown}

-- a panel that tells of the loan too
abbrev pub lent : GName → List Span → ℕ → Panel → Panel
lent name ranges count p = record p { loans = (record { name = name; ranges = ranges; count = count }) ∷ p.loans }

-- what a view of these ranges shows of the device that is borrowed under this name
abbrev pub view : GName → List Span → Device → Device
view name ranges d = record { medium = shown ranges d.medium; panel = lent name ranges d.medium.count d.panel }
