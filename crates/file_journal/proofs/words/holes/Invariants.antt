use Rattle.std.proofs.Common.{◌≡◌, ◌-◌, ◌≤◌}
use Rattle.file_journal.specs.Changes.{holes}
use Rattle.file_journal.proofs.words.holes.Given as goal

abbrev pub invariant-loop-page : goal.invariant-loop-page
invariant-loop-page l = record {
  from : l.fn.first ≤ l.page;
  are : l.switches.items ≡ holes l.fn.first (l.page - l.fn.first);
}
