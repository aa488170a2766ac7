use Rattle.std.proofs.Common.{take}
use Rattle.file_journal.proofs.StepLemmas.{AreStepped}
use Rattle.file_journal.proofs.assigning.switch_units.Given as goal

abbrev pub invariant-loop-page : goal.invariant-loop-page
invariant-loop-page l = AreStepped l.fn.inode (take l.page-index l.switches) l.fn.table l.fn.pool l.table l.pool
