use Rattle.std.proofs.Common.{sym, subst}
use Rattle.inode_table.specs.Slots.{IsTable}
use Rattle.inode_table.proofs.TableLemmas.{is_table}
use Rattle.inode_table.proofs.inodes.Inodes.read.Goals as goal

pub invariant_of-result : goal.invariant_of-result
invariant_of-result c = subst IsTable (sym c.in_ok-slots.ensures.ok) (is_table c.args.words.now c.in_ok-slots.ensures.right)

pub returns-clause-table : goal.returns-clause-table
returns-clause-table c = subst IsTable (sym c.in_ok-slots.ensures.ok) (is_table c.args.words.now c.in_ok-slots.ensures.right)
