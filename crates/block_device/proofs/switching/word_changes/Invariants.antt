use Rattle.std.proofs.Common.{◌≡◌, take}
use Rattle.block_device.specs.Changes.{word_changes}
use Rattle.block_device.proofs.switching.word_changes.Given as goal

abbrev pub invariant-loop-change : goal.invariant-loop-change
invariant-loop-change l = l.words.items ≡ word_changes l.geo (take l.change-index l.changes)
