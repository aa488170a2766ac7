use Rattle.std.proofs.Common.{◌≡◌, ◌+◌, length}
use Rattle.free_pool.specs.Units.{free_count}
use Rattle.file_pages.specs.Fresh.{AreFresh}
use Rattle.file_pages.proofs.fresh.take_units.Given as goal

abbrev pub invariant-loop-k : goal.invariant-loop-k
invariant-loop-k l = record {
  fresh : AreFresh l.fn.journal l.inode l.pages.start l.k l.fresh.items l.journal.free;
  left : free_count l.journal.free + length l.fresh.items ≡ free_count l.fn.journal.free;
  journal : l.journal ≡ record l.fn.journal { free = l.journal.free };
}
