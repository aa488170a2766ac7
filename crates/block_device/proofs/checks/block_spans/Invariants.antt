use Rattle.std.proofs.Common.{◌≡◌, length, take}
use Rattle.block_device.specs.Refusals.{block_spans}
use Rattle.block_device.proofs.checks.block_spans.Given as goal

abbrev pub invariant-loop-i : goal.invariant-loop-i
invariant-loop-i l = (length l.spans ≡ 8) × (take l.i l.spans ≡ block_spans (take l.i l.ranges))
