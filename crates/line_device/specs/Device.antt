-- The whole meaning of a device, and what its calls say of it.
use Rattle.std.specs.Prelude.{◌≡◌, ◌/◌, ◌<◌, ℕ, Bool, true, false, [], ◌∷◌, Result, Ok, Err}
use Rattle.line_device.specs.Medium.{Medium, Survivors, Waits, IsHealthy}
use Rattle.line_device.specs.Panel.{Panel, Image, Start, Outcome, RestartRefused, after_restart}
use Rattle.line_device.specs.Panel.Outcome.{went, failed}
use Rattle.line_device.specs.declared.line.Choice.{Choice}
use Rattle.line_device.specs.declared.fault.DeviceFault.{DeviceFault}
use Rattle.line_device.specs.declared.fault.DeviceFault.TheVariants.{Poisoned, Failed, PowerLost}
use Rattle.line_device.specs.declared.fault.ResetFault.{ResetFault}
use Rattle.line_device.specs.declared.fault.ResetFault.TheVariants as setup

pub record Device : Type 0 where
  pub medium : Medium
  pub panel : Panel

-- this fault is Poisoned only where this line is bad, and names it
abbrev pub IsPoison : ℕ → Bool → DeviceFault → Type 0
IsPoison line bad (Poisoned n) = (n.0 ≡ line) × (bad ≡ true)
IsPoison line bad Failed = Unit {0}
IsPoison line bad PowerLost = Unit {0}

-- a load, store or persist of this line is answered Poisoned exactly where the line is bad, and names it
abbrev pub Poisons : {T : Type 0} → ℕ → Bool → Result T DeviceFault → Type 0
Poisons line bad (Ok x) = bad ≡ false
Poisons line bad (Err fault) = IsPoison line bad fault

-- how setting up ended
abbrev pub setup_outcome : {T : Type 0} → Result T ResetFault → Outcome
setup_outcome (Ok x) = went
setup_outcome (Err setup.Failed) = failed
setup_outcome (Err setup.Memory) = went

-- the lines have one value each, those of the image
pub record Depicts (m : Medium) (image : Image) : Type 0 where
  pub count : image.count ≡ m.count
  pub bad : (n : ℕ) → n < m.count → image.is_bad n ≡ m.is_bad n
  pub weak : (n : ℕ) → n < m.count → image.is_weak n ≡ m.is_weak n
  pub words : (p : ℕ) → IsHealthy m (p / 8) → m.history p ≡ image.word p ∷ []

-- the power came back: each word has one of its values, and this start was told
pub record Restarted (choice : Choice) (old new : Device) (start : Start) : Type 0 where
  pub lines : Survivors old.panel.unit choice old.medium new.medium
  pub unit : start.image.unit ≡ old.panel.unit
  pub asked : start.choice ≡ choice
  pub image : Depicts new.medium start.image
  pub panel : new.panel ≡ after_restart old.panel start

-- the power stays off
pub record Waited (old new : Device) : Type 0 where
  pub lines : Waits old.panel.unit old.medium new.medium
  pub panel : RestartRefused old.panel new.panel
