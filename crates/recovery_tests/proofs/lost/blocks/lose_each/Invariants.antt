use Rattle.line_device.specs.Plain.{device_of}
use Rattle.block_device.specs.Object.{BlocksServe}
use Rattle.recovery_tests.proofs.lost.blocks.lose_each.Given as goal

abbrev pub invariant-loop-block : goal.invariant-loop-block
invariant-loop-block g l = BlocksServe l.blocks (device_of l.dev).medium
