use Rattle.std.proofs.Common.{◌≡◌, ◌≤◌, ◌*◌, List, sum_by, take}
use Rattle.nvm_model.specs.Page.{Page}
use Rattle.pm_volume.specs.Object.{VolumeHolds}
use Rattle.marked_lines.specs.Counting.{bad_in_page}
use Rattle.scrub.proofs.counting.bad_in_volume.Given as goal

abbrev pub invariant-loop-page : goal.invariant-loop-page
invariant-loop-page g l = record {
  count : (pages : List Page) → VolumeHolds l.volume (g.L.Lines.state l.dev).medium pages → l.bad ≡ sum_by bad_in_page (take l.page pages);
  few : l.bad ≤ 64 * l.page;
}
