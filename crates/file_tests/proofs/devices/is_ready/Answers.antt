use Rattle.std.proofs.Common.{arith}
use Rattle.file_journal.proofs.CheckLemmas.{meta_within}
use Rattle.file_tests.proofs.devices.is_ready.Goals as goal

pub is_weak-requires : goal.is_weak-requires
is_weak-requires g c = omega (arith, meta_within (record { blocks = 8; vpages = 2; fpages = 32 }))
