-- When nothing failed, and a right image is held under a name.
use Rattle.std.specs.Prelude.{◌≡◌, ◌⊎◌, ◌≤◌, List, ℕ, length, Option, None, Some}
use Rattle.nvm_base.specs.Counts.{Rose}
use Rattle.host_io.specs.Images.{Held}
use Rattle.image_file.specs.Devices.{medium_of}
use Rattle.image_file.specs.Text.{Snapshot}
use Rattle.image_file.specs.WrongField.{first_wrong_offset}
use Rattle.image_file.specs.declared.Units.{Units}
use Rattle.recovery.specs.Findings.{first_finding}
use Rattle.program_base.specs.Ending.{most_bytes}
use Rattle.program_base.specs.Opening.{IsHeld}
use Rattle.program_base.specs.World.{World}

-- No count of failures rose: of reads and writes, of the images, of setting up; nor the device's own, where nothing was read.
pub record NothingFailed (old new : World) : Type 0 where
  pub reads : Rose old.reads new.reads → ⊥
  pub writes : Rose old.writes new.writes → ⊥
  pub fetches : Rose old.images.fetch_faults new.images.fetch_faults → ⊥
  pub replaces : Rose old.images.replace_faults new.images.replace_faults → ⊥
  pub setups : Rose old.device.panel.counts.setups new.device.panel.counts.setups → ⊥
  pub device : new.left ≡ old.left
      → Rose old.device.panel.counts.faults new.device.panel.counts.faults ⊎ Rose old.device.panel.counts.cuts new.device.panel.counts.cuts → ⊥

-- An image of one of these units is held under the name: no field of its bytes is wrong, and they are not too many; and nothing is
-- found that is wrong with the device that it tells of.
pub record HoldsRight (units : Units) (name : List ℕ) (held : Option Held) : Type 0 where
  pub look : Held
  pub told : held ≡ Some look
  pub bytes : List ℕ
  pub there : look name ≡ Some bytes
  pub image : first_wrong_offset units bytes ≡ None
  pub few : length bytes ≤ most_bytes
  pub right : (image : Snapshot) → IsHeld units name held image → first_finding (medium_of image.lines) ≡ None
