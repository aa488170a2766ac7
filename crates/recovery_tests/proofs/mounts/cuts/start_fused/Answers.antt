use Rattle.block_device.proofs.PlainLemmas.{plain_ends}
use Rattle.recovery_tests.proofs.mounts.cuts.start_fused.Goals as goal

pub open-requires : goal.open-requires
open-requires c = record { end = plain_ends c.args.dev.now.inner }
