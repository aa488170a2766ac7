use Rattle.std.proofs.Common.{IsTrue}
use Rattle.file_journal.specs.Object.{JournalServes}
use Rattle.file_tests.proofs.journals.lists.make_all.Given as goal

abbrev pub invariant-loop-n : goal.invariant-loop-n
invariant-loop-n g l = IsTrue l.journal.settled → JournalServes l.journal (g.L.Lines.state l.dev).medium
