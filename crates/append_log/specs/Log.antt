-- What callers see of a log, and of which records it is.
use Rattle.std.specs.Prelude.{◌≡◌, ◌≤◌, ◌<◌, ◌*◌, ℕ, IsTrue, List, Option, Some, length}
use Rattle.line_device.specs.Device.{Device}
use Rattle.line_device.specs.Medium.{Medium}
use Rattle.nvm_model.specs.Page.{Page, cell_of}
use Rattle.pm_volume.specs.Object.{VolumeState, VolumeHolds, VolumeServes}
use Rattle.pm_volume.specs.Left.{IsDurable}
use Rattle.append_log.specs.Lines.{count_in, log_of}

-- the volume, and how many records there are
pub record LogState : Type 0 where
  pub volume : VolumeState
  pub len : ℕ

-- the pages have this log, and every line of it is durable
pub record LogStands (pages : List Page) (log : List (Option (List ℕ))) : Type 0 where
  pub reads : log_of pages ≡ Some log
  pub durable : (n : ℕ) → n ≤ length log → IsDurable (cell_of pages n)

-- object and device have this log, durably
pub record HoldsLog (s : LogState) (m : Medium) (log : List (Option (List ℕ))) : Type 0 where
  pub pages : List Page
  pub holds : VolumeHolds s.volume m pages
  pub stands : LogStands pages log

-- The device is the one whose log this is: line 0 has its count, as last stored.
pub record LogServes (s : LogState) (m : Medium) : Type 0 where
  pub volume : VolumeServes s.volume m
  pub counts : (pages : List Page) → VolumeHolds s.volume m pages → count_in (cell_of pages 0) ≡ Some s.len
  pub within : s.len < 64 * s.volume.geo.vpages

-- The same of a device that is on, where nothing stopped the log's last call.
pub record IsOpen (s : LogState) (d : Device) : Type 0 where
  pub serves : LogServes s d.medium
  pub settled : IsTrue s.volume.settled
  pub on : IsTrue d.panel.power
