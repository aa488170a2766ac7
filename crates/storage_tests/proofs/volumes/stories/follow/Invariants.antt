use Rattle.std.proofs.Common.{IsTrue}
use Rattle.line_device.specs.Plain.{device_of}
use Rattle.pm_volume.specs.Object.{VolumeServes}
use Rattle.storage_tests.proofs.volumes.stories.follow.Given as goal

abbrev pub invariant-loop-act : goal.invariant-loop-act
invariant-loop-act g l = IsTrue l.volume.settled → VolumeServes l.volume (device_of l.device).medium
