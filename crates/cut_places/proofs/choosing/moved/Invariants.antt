use Rattle.std.proofs.Common.{◌≡◌, take}
use Rattle.sights.specs.MachineModel.OnFlushes.{all_moved}
use Rattle.cut_places.proofs.choosing.moved.Given as goal

abbrev pub invariant-loop-span : goal.invariant-loop-span
invariant-loop-span l = l.moved.items ≡ all_moved l.by (take l.span-index l.spans)
