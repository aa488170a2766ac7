use Rattle.std.proofs.Common.{◌≡◌, ◌≤◌}
use Rattle.file_actions.specs.Rewriting.{pages_touched}
use Rattle.file_actions.proofs.ranges.pages_touched.Given as goal

abbrev pub invariant-loop-page : goal.invariant-loop-page
invariant-loop-page l = record {
  touched : l.touched ≡ pages_touched l.ranges l.page;
  few : l.touched ≤ l.page;
}
