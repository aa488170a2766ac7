use Rattle.std.proofs.Common.{arith}
use Rattle.block_device.proofs.AreaLemmas.{meta_within}
use Rattle.storage_tests.proofs.devices.is_ready.Goals as goal

pub is_weak-requires : goal.is_weak-requires
is_weak-requires g c = omega (arith, meta_within c.args.geo)
