use Rattle.std.proofs.Common.{◌≡◌, ◌<◌, ℕ, None, get_or, length}
use Rattle.inode_table.specs.Slots.{pages_of}
use Rattle.file_journal.proofs.mounting.page_counts.Given as goal

abbrev pub invariant-loop-inode : goal.invariant-loop-inode
invariant-loop-inode l = record {
  all : length l.counts ≡ 64;
  each : (k : ℕ) → k < l.inode → get_or l.counts k 0 ≡ pages_of (get_or l.inodes k None);
}
