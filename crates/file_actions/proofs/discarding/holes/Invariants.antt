use Rattle.std.proofs.Common.{◌≡◌, ◌-◌, ◌≤◌}
use Rattle.file_journal.specs.Changes.{holes}
use Rattle.file_actions.proofs.discarding.holes.Given as goal

abbrev pub invariant-loop-page : goal.invariant-loop-page
invariant-loop-page l = record {
  from : l.fn.pages.start ≤ l.page;
  are : l.switches.items ≡ holes l.fn.pages.start (l.page - l.fn.pages.start);
}
