-- Bringing host and device to rest, so that the device can be read: what it comes to, and what it asks of the device.
use Rattle.std.specs.Prelude.{◌≡◌, ◌+◌, ◌≤◌, Bool, true, false, List, [], length, Result, Ok, Err}
use Rattle.line_device.specs.Panel.{Panel, Start, told}
use Rattle.line_device.specs.Device.{Device}
use Rattle.machine_model.specs.declared.mode.Mode.{Mode}
use Rattle.machine_model.specs.declared.mode.Mode.TheVariants as modes
use Rattle.machine_model.specs.Machine.{Machine}
use Rattle.machine_model.specs.Costs.{mount_calls, mount_persists}
use Rattle.machine_model.specs.Telling.{bumped_by}
pub use Rattle.machine_model.specs.Settling.{LeavesUnmounted, SettlesTo, disarmed}
use Rattle.machine_host.specs.Stands.{HostState, HostServes, Stands}
use Rattle.line_device.specs.Medium.{Waits}

-- the host may go on, and stands with its device for some state
pub record GoesOn (host : HostState) (d : Device) : Type 0 where
  pub serves : HostServes host d
  pub state : Machine
  pub stands : Stands host d state

-- nothing is armed
pub record IsQuiet (p : Panel) : Type 0 where
  pub cut : p.cut_armed ≡ false
  pub fail : p.fail_armed ≡ false

-- What it asks of a device on which nothing is armed, and which tells these starts: as many calls as a mount at most, and no
-- order. Nothing is armed after it, no power was lost, and the count of failures doesn't fall.
pub record Asks (starts : List Start) (old new : Panel) : Type 0 where
  pub tells : new.starts ≡ told old.starts starts
  pub cut_armed : new.cut_armed ≡ false
  pub fail_armed : new.fail_armed ≡ false
  pub calls : new.counts.calls ≤ old.counts.calls + mount_calls
  pub persists : new.counts.persists ≤ old.counts.persists + mount_persists
  pub faults : old.counts.faults ≤ new.counts.faults
  pub cuts : new.counts.cuts ≡ old.counts.cuts
  pub offs : new.counts.offs ≡ old.counts.offs
  pub arms : new.counts.arms ≡ old.counts.arms
  pub evicts : new.counts.evicts ≡ old.counts.evicts
  pub disarms : new.counts.disarms ≡ old.counts.disarms
  pub setups : new.counts.setups ≡ old.counts.setups
  pub last_order : new.last_order ≡ old.last_order

-- The state h was settled, once the device was disarmed: host and device stand for the state that it came to.
pub record Settled (h : Machine) (after : HostState) (quiet : Panel) (new : Device) : Type 0 where
  pub starts : List Start
  pub next : Machine
  pub comes : SettlesTo h.mode h starts next
  pub stands : Stands after new next
  pub serves : HostServes after new
  pub asks : Asks starts quiet new.panel
  pub restarts : new.panel.counts.restarts ≡ bumped_by starts quiet.counts.restarts

-- There was no memory to mount the device: host and device stand for what they did, and nothing is armed.
pub record StaysUnmounted (host after : HostState) (old new : Device) : Type 0 where
  pub same : after ≡ host
  pub serves : HostServes after new
  pub asks : Asks [] old.panel new.panel
  pub restarts : new.panel.counts.restarts ≡ old.panel.counts.restarts
  pub stands : (h : Machine) → Stands host old h → Stands after new (disarmed h)

-- whether a mount is to come before anything else is done
abbrev pub is_down : Mode → Bool
is_down modes.On = false
is_down modes.Off = true
is_down modes.Unsettled = true
is_down modes.Stopped = false

-- The restart was refused: no start was told, and the host is as it was.
pub record StaysOff (starts : List Start) (host after : HostState) (old new : Device) : Type 0 where
  pub same : after ≡ host
  pub none : starts ≡ []
  pub lines : Waits old.panel.unit old.medium new.medium

-- There was no memory for a settling: a mount was to come and is to come, and at most one restart was done, or refused, after which
-- the host is off still.
pub record LeftUnsettled (host after : HostState) (old : Device) (quiet : Panel) (new : Device) : Type 0 where
  pub starts : List Start
  pub few : length starts ≤ 1
  pub was_down : is_down host.mode ≡ true
  pub stays_down : is_down after.mode ≡ true
  pub serves : HostServes after new
  pub asks : Asks starts quiet new.panel
  pub restarts : bumped_by starts quiet.counts.restarts ≤ new.panel.counts.restarts
  pub once : new.panel.counts.restarts ≤ quiet.counts.restarts + 1
  pub waiting : after.mode ≡ modes.Off → StaysOff starts host after old new
  pub stands : (h : Machine) → Stands host old h → after.mode ≡ modes.Unsettled
      → (next : Machine) × LeavesUnmounted host.mode h starts next × Stands after new next

-- the state was settled, and the host is on or stopped
abbrev pub IsSettled : HostState → HostState → Device → Device → Type 0
IsSettled host after old new = (is_down after.mode ≡ false) × ((h : Machine) → Stands host old h → Settled h after old.panel new)

-- what a mount promises of its answer, of a device on which nothing is armed; and what a restart and a mount do
abbrev pub MountsAnew : {E : Type 0} → Result (Unit {0}) E → HostState → HostState → Device → Device → Type 0
MountsAnew (Ok u) host after old new = IsSettled host after old new
MountsAnew (Err e) host after old new = StaysUnmounted host after old new

abbrev pub Settles : {E : Type 0} → Result (Unit {0}) E → HostState → HostState → Device → Device → Type 0
Settles (Ok u) host after old new = IsSettled host after old new
Settles (Err e) host after old new = LeftUnsettled host after old old.panel new
