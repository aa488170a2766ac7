use Rattle.std.proofs.Common.{◌≡◌, ◌≤◌, take}
use Rattle.file_journal.specs.Changes.{filled_holes}
use Rattle.file_journal.proofs.Journal.filled_holes.Given as goal

abbrev pub invariant-loop-page : goal.invariant-loop-page
invariant-loop-page l = record {
  filled : l.filled ≡ filled_holes l.self.tables l.inode (take l.page-index l.pages);
  few : l.filled ≤ l.page-index;
}
