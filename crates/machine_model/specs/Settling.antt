-- Bringing the machine to rest: what it comes to.
use Rattle.std.specs.Prelude.{◌≡◌, false, List, [], ◌∷◌}
use Rattle.line_device.specs.Panel.{Start}
use Rattle.line_device.specs.declared.line.Choice.TheVariants.{Lasts}
use Rattle.machine_model.specs.declared.mode.Mode.{Mode}
use Rattle.machine_model.specs.declared.mode.Mode.TheVariants as modes
use Rattle.machine_model.specs.Machine.{Machine}
use Rattle.machine_model.specs.Restarting.{RestartMayLeave, restarted}
use Rattle.machine_model.specs.Recovering.{RecoveryMayLeave}

-- the state with nothing armed
abbrev pub disarmed : Machine → Machine
disarmed h = record h { cut_armed = false; fail_armed = false }

-- What it comes to, by the mode. Where the host was on, or stopped, only what is armed ends. Where the power was off it comes
-- back, and each word keeps its last value; one restart was told. Where a call had failed, the device is mounted anew.
abbrev pub SettlesTo : Mode → Machine → List Start → Machine → Type 0
SettlesTo modes.On h starts next = (starts ≡ []) × (next ≡ disarmed h)
SettlesTo modes.Off h starts next =
    (start : Start) × (starts ≡ start ∷ []) × (start.choice ≡ Lasts) × RestartMayLeave Lasts start.image h
    × (next ≡ restarted (disarmed h) start.image)
SettlesTo modes.Unsettled h starts next = (starts ≡ []) × RecoveryMayLeave (disarmed h) next
SettlesTo modes.Stopped h starts next = (starts ≡ []) × (next ≡ disarmed h)

-- The state in which it leaves a device that it could not mount: nothing is armed, and it may be tried again. A host that is on
-- or stopped is never left so.
abbrev pub LeavesUnmounted : Mode → Machine → List Start → Machine → Type 0
LeavesUnmounted modes.On h starts next = ⊥
LeavesUnmounted modes.Off h starts next =
    (start : Start) × (starts ≡ start ∷ []) × (start.choice ≡ Lasts) × RestartMayLeave Lasts start.image h
    × (next ≡ record (restarted (disarmed h) start.image) { mode = modes.Unsettled })
LeavesUnmounted modes.Unsettled h starts next = (starts ≡ []) × (next ≡ disarmed h)
LeavesUnmounted modes.Stopped h starts next = ⊥
