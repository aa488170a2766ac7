-- What a call is made on, and which of it a step leaves alone.
use Rattle.std.specs.Prelude.{◌≡◌, ℕ, List, Option}
use Rattle.host_io.specs.Images.{Held}
use Rattle.host_io.specs.declared.images.ImageCounts.{ImageCounts}
use Rattle.line_device.specs.Device.{Device}

-- the device; what the images tell of what they hold, and their counts; the script that is left, and how many reads failed; the
-- replies that were written, and how many writes failed
pub record World : Type 0 where
  pub device : Device
  pub held : Option Held
  pub images : ImageCounts
  pub left : Option (List ℕ)
  pub reads : ℕ
  pub written : Option (List ℕ)
  pub writes : ℕ

-- the script is not read
pub record LeavesScript (old new : World) : Type 0 where
  pub left : new.left ≡ old.left
  pub reads : new.reads ≡ old.reads

-- the same from its parts
abbrev pub world : Device → Option Held → ImageCounts → Option (List ℕ) → ℕ → Option (List ℕ) → ℕ → World
world device held images left reads written writes =
    record { device = device; held = held; images = images; left = left; reads = reads; written = written; writes = writes }
