use Rattle.std.proofs.Common.{◌≡◌, ◌-◌, ◌≤◌}
use Rattle.pm_volume.specs.Presence.{word_changes}
use Rattle.pm_volume.proofs.switching.word_changes.Given as goal

abbrev pub invariant-loop-page : goal.invariant-loop-page
invariant-loop-page l = record {
  from : l.fn.pages.start ≤ l.page;
  words : l.words.items ≡ word_changes l.geo l.fn.pages.start (l.page - l.fn.pages.start) l.there;
}
