use Rattle.std.proofs.Common.{◌-◌, ◌≤◌, ◌+◌, ◌*◌, ℕ}
use Rattle.page_table.specs.Pages.{IsOn}
use Rattle.page_table.proofs.table.PageTable.joined_before.Given as goal

abbrev pub invariant-loop-before : goal.invariant-loop-before
invariant-loop-before l = record {
  pages : l.before ≤ l.page;
  units : l.before ≤ l.unit;
  joined : (k : ℕ) → k ≤ l.before → IsOn l.self.pages (256 * l.inode + (l.page - k)) (l.unit - k);
}

abbrev pub decreases-loop-before : goal.decreases-loop-before
decreases-loop-before l = l.page - l.before
