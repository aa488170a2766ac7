use Rattle.std.proofs.Common.{refl}
use Rattle.file_journal.proofs.MountLemmas.{told_inodes, told_pages, told_right, told_tables}
use Rattle.file_journal.proofs.Journal.judge.Goals as goal

pub returns-in_err-inodes-clause-finds : goal.returns-in_err-inodes-clause-finds
returns-in_err-inodes-clause-finds c =
    told_inodes c.args.geo c.args.words.now c.split_at.result.0.now c.split_at.result.1.now c.split_at.ensures.front c.split_at.ensures.back
    c.from_residual.result c.in_err-inodes.field-0.0 c.from_residual.ensures.1 c.in_err-inodes.ensures.finds

pub returns-in_err-table-clause-finds : goal.returns-in_err-table-clause-finds
returns-in_err-table-clause-finds c =
    told_pages c.args.geo c.args.words.now c.split_at.result.0.now c.split_at.result.1.now c.split_at.ensures.front c.split_at.ensures.back
    c.in_ok-inodes.inodes c.in_ok-inodes.ensures.ok c.in_ok-inodes.ensures.finds
    c.from_residual-in_err-table.result c.in_err-table.field-0.0 c.from_residual-in_err-table.ensures.1 c.in_err-table.ensures.finds

pub returns-clause-journal : goal.returns-clause-journal
returns-clause-journal c = (
  refl,
  told_tables c.args.geo c.args.words.now c.split_at.result.0.now c.split_at.result.1.now c.split_at.ensures.front c.split_at.ensures.back
      c.in_ok-inodes.inodes c.in_ok-inodes.ensures.ok c.in_ok-inodes.ensures.finds c.in_ok-table.table c.in_ok-table.ensures.ok.is,
)

pub returns-clause-finds : goal.returns-clause-finds
returns-clause-finds c =
    told_right c.args.geo c.args.words.now c.split_at.result.0.now c.split_at.result.1.now c.split_at.ensures.front c.split_at.ensures.back
    c.in_ok-inodes.inodes c.in_ok-inodes.ensures.ok c.in_ok-inodes.ensures.finds c.in_ok-table.ensures.finds
