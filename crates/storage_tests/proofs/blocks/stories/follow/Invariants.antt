use Rattle.std.proofs.Common.{IsTrue}
use Rattle.line_device.specs.Plain.{device_of}
use Rattle.block_device.specs.Object.{BlocksServe}
use Rattle.storage_tests.proofs.blocks.stories.follow.Given as goal

abbrev pub invariant-loop-act : goal.invariant-loop-act
invariant-loop-act g l = IsTrue l.blocks.settled → BlocksServe l.blocks (device_of l.device).medium
