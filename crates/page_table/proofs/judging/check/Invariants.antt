use Rattle.std.proofs.Common.{◌-◌, ◌≤◌, length, map}
use Rattle.page_table.specs.Pages.{unit_of}
use Rattle.page_table.proofs.ClaimLemmas.{HasClaimed}
use Rattle.page_table.proofs.judging.check.Given as goal

abbrev pub invariant-loop-entry : goal.invariant-loop-entry
invariant-loop-entry l = record {
  within : l.entry ≤ length l.words;
  claimed : HasClaimed l.units l.counts (map unit_of l.words) l.entry l.free;
}

abbrev pub decreases-loop-entry : goal.decreases-loop-entry
decreases-loop-entry l = length l.words - l.entry
