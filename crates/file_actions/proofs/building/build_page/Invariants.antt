use Rattle.std.proofs.Common.{◌≡◌, ◌+◌, ◌*◌, ◌<◌, ℕ, IsTrue, drop, length, take}
use Rattle.line_device.specs.Medium.{WritesBack}
use Rattle.line_device.specs.Panel.{Runs}
use Rattle.line_device.specs.Panel.Outcome.{went}
use Rattle.file_pages.specs.Object.{PagesServe, is_settled}
use Rattle.file_actions.specs.Made.{IsNewLine}
use Rattle.file_actions.proofs.building.build_page.Given as goal

abbrev pub invariant-loop-k : goal.invariant-loop-k
invariant-loop-k g l =
    let old = g.L.Lines.state l.initial.dev in
    let now = g.L.Lines.state l.dev in
    record {
      size : length l.out ≡ 4096;
      made : (j : ℕ) → j < l.k → IsNewLine l.initial.files.journal old.medium l.inode l.ranges l.bytes (64 * l.page + j) (take 64 (drop (64 * j) l.out));
      lines : WritesBack old.medium now.medium;
      serves : PagesServe l.files now.medium;
      journal : l.files.journal ≡ l.initial.files.journal;
      settled : IsTrue (is_settled l.files);
      runs : Runs l.k 0 went old.panel now.panel;
    }
