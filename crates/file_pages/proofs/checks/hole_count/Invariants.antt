use Rattle.std.proofs.Common.{◌≡◌, ◌≤◌}
use Rattle.nvm_model.specs.Page.{absent_among}
use Rattle.file_pages.specs.Object.{pages_there}
use Rattle.file_pages.proofs.checks.hole_count.Given as goal

abbrev pub invariant-loop-k : goal.invariant-loop-k
invariant-loop-k l = record {
  holes : l.holes ≡ absent_among (pages_there l.journal l.inode) l.pages.start l.k;
  few : l.holes ≤ l.k;
}
