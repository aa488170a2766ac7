use Rattle.block_device.proofs.PlainLemmas.{plain_ends}
use Rattle.storage_tests.proofs.blocks.start.Goals as goal

pub open-requires-clause-end : goal.open-requires-clause-end
open-requires-clause-end c = plain_ends c.args.dev.now
