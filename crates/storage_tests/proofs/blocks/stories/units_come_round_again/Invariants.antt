use Rattle.std.proofs.Common.{IsTrue}
use Rattle.line_device.specs.Plain.{device_of}
use Rattle.block_device.specs.Object.{BlocksServe}
use Rattle.storage_tests.proofs.blocks.stories.units_come_round_again.Given as goal

abbrev pub invariant-loop-block : goal.invariant-loop-block
invariant-loop-block g l = IsTrue l.blocks.settled → BlocksServe l.blocks (device_of l.device).medium
