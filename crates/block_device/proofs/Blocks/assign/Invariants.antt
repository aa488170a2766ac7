use Rattle.std.proofs.Common.{◌≡◌, drop}
use Rattle.block_device.specs.Object.{IsKept}
use Rattle.block_device.specs.Changes.{changed_map}
use Rattle.block_device.proofs.AssignLemmas.{IsAssigning}
use Rattle.block_device.proofs.Blocks.assign.Given as goal

abbrev pub invariant-loop-change : goal.invariant-loop-change
invariant-loop-change l =
    IsAssigning (drop l.change-index l.changes) (changed_map l.changes l.fn.self.map) l.self-inside.map l.self-inside.pool
    × IsKept (record {
      geo = l.self-inside.geo;
      map = l.self-inside.map;
      free = l.self-inside.pool;
      quiet = l.self-inside.log.settled;
      settled = l.self-inside.settled;
    }) l.self-inside.log.area
    × (l.self-inside.geo ≡ l.fn.self.geo)
    × (l.self-inside.log.settled ≡ l.fn.self.quiet)
    × (l.self-inside.settled ≡ l.fn.self.settled)
