use Rattle.std.proofs.Common.{◌≡◌, ◌-◌, ◌≤◌}
use Rattle.pm_volume.specs.Presence.{switched}
use Rattle.pm_volume.proofs.switching.mark.Given as goal

abbrev pub invariant-loop-page : goal.invariant-loop-page
invariant-loop-page l = record {
  from : l.fn.pages.start ≤ l.page;
  marked : l.present.items ≡ switched l.fn.pages.start (l.page - l.fn.pages.start) l.there l.fn.present.items;
}
