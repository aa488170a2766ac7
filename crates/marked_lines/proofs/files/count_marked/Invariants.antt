use Rattle.std.proofs.Common.{◌≡◌, ◌*◌, ◌<◌, ◌≤◌, sum_by, take}
use Rattle.page_table.specs.Pages.{used_pages}
use Rattle.nvm_model.proofs.SumLemmas.{of_slot}
use Rattle.file_journal.specs.Files.{unit_slots}
use Rattle.file_journal.specs.Tables.{AreTables}
use Rattle.marked_lines.proofs.FileCountLemmas.{marked_on_units}
use Rattle.marked_lines.proofs.files.count_marked.Given as goal

abbrev pub invariant-loop-inode : goal.invariant-loop-inode
invariant-loop-inode g l = record {
  count : l.marked ≡ sum_by (of_slot (marked_on_units l.mark l.journal.geo (g.L.Lines.state l.dev).medium)) (take l.inode (unit_slots l.journal.tables));
  few : l.marked ≤ 64 * used_pages (take (256 * l.inode) l.journal.tables.pages);
  tables : 0 < l.inode → AreTables l.journal.geo.fpages l.journal.tables;
}
