use Rattle.std.proofs.Common.{◌-◌, ◌<◌, ◌≤◌, ◌+◌, ◌*◌, ℕ}
use Rattle.page_table.specs.Pages.{IsOn}
use Rattle.page_table.proofs.table.PageTable.joined_after.Given as goal

abbrev pub invariant-loop-after : goal.invariant-loop-after
invariant-loop-after l = record {
  within : l.page + l.after < 256;
  joined : (k : ℕ) → k ≤ l.after → IsOn l.self.pages (256 * l.inode + (l.page + k)) (l.unit + k);
}

abbrev pub decreases-loop-after : goal.decreases-loop-after
decreases-loop-after l = 256 - (l.page + l.after)
