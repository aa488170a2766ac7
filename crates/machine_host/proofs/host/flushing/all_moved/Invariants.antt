use Rattle.std.proofs.Common.{◌≡◌, length, take}
use Rattle.machine_model.specs.OnFlushes.{all_moved}
use Rattle.machine_host.proofs.host.flushing.all_moved.Given as goal

abbrev pub invariant-loop-k : goal.invariant-loop-k
invariant-loop-k l = (length l.moved ≡ 8) × (take l.k l.moved ≡ all_moved l.by (take l.k l.spans))
