use Rattle.std.proofs.Common.{◌≡◌, ◌+◌, ◌*◌, IsTrue, length}
use Rattle.free_pool.specs.Units.{free_count}
use Rattle.line_device.specs.Panel.{Runs}
use Rattle.line_device.specs.Panel.Outcome.{went}
use Rattle.file_pages.specs.Object.{is_settled}
use Rattle.file_actions.specs.Made.{AreAsBefore, AreMade, AreWritten}
use Rattle.file_actions.specs.Rewriting.{pages_touched}
use Rattle.file_actions.proofs.preparing.write_pages.Given as goal

abbrev pub invariant-loop-page : goal.invariant-loop-page
invariant-loop-page g l =
    let s = l.initial.files.journal in
    let old = g.L.Lines.state l.initial.dev in
    let now = g.L.Lines.state l.dev in
    record {
      before : AreAsBefore l.initial.files old.medium l.files now.medium;
      made : AreMade s l.inode l.ranges l.page l.switches.items l.files.journal.free;
      written : AreWritten s old.medium l.inode l.ranges l.bytes now.medium l.switches.items;
      left : free_count l.files.journal.free + length l.switches.items ≡ free_count s.free;
      settled : IsTrue (is_settled l.files);
      runs : Runs (256 * pages_touched l.ranges l.page) (64 * pages_touched l.ranges l.page) went old.panel now.panel;
    }
