-- Each change is one of the device's, and gives one word.
use Rattle.std.proofs.Common.{arith}
use Rattle.block_device.proofs.ChangeLemmas.{within_at, below-le}
use Rattle.block_device.proofs.switching.word_changes.Goals as goal

pub block_word-requires-clause-block : goal.block_word-requires-clause-block
block_word-requires-clause-block c = (within_at _ _ _ _ c.requires.may c.loop-change-test.true).0

pub word-requires : goal.word-requires
word-requires c = below-le _ _ _ (omega arith) (within_at _ _ _ _ c.requires.may c.loop-change-test.true).1
