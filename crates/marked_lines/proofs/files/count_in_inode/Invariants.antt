use Rattle.std.proofs.Common.{◌≡◌, ◌+◌, ◌*◌, ◌≤◌, sum_by, take}
use Rattle.nvm_model.specs.Numbered.{list_from}
use Rattle.page_table.specs.Pages.{used_pages}
use Rattle.file_journal.specs.Tables.{unit_at}
use Rattle.marked_lines.specs.Counting.{marked_on_unit}
use Rattle.marked_lines.proofs.files.count_in_inode.Given as goal

abbrev pub invariant-loop-page : goal.invariant-loop-page
invariant-loop-page g l = record {
  count : l.marked ≡ sum_by (marked_on_unit l.mark l.journal.geo (g.L.Lines.state l.dev).medium) (list_from (unit_at l.journal.tables l.inode) 0 l.page);
  few : l.marked + 64 * used_pages (take (256 * l.inode) l.journal.tables.pages) ≤ 64 * used_pages (take (256 * l.inode + l.page) l.journal.tables.pages);
}
