use Rattle.std.proofs.Common.{◌≡◌, ◌≤◌}
use Rattle.file_pages.specs.Object.{pages_there}
use Rattle.file_actions.specs.Made.{holes_below}
use Rattle.file_actions.proofs.checks.hole_count.Given as goal

abbrev pub invariant-loop-page : goal.invariant-loop-page
invariant-loop-page l = record {
  holes : l.holes ≡ holes_below l.ranges (pages_there l.journal l.inode) l.page;
  few : l.holes ≤ l.page;
}
