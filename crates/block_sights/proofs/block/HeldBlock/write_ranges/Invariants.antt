use Rattle.std.proofs.Common.{◌≡◌, drop}
use Rattle.block_sights.specs.Sights.{sight_written_ranges}
use Rattle.block_sights.proofs.block.HeldBlock.write_ranges.Given as goal

-- what the ranges from this one on make of the block is what all make of it
abbrev pub invariant-loop-range : goal.invariant-loop-range
invariant-loop-range l = sight_written_ranges (drop l.range-index l.ranges) l.rest l.b l.self ≡ sight_written_ranges l.ranges l.bytes l.b l.initial.self
