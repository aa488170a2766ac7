use Rattle.std.proofs.Common.{◌≡◌, take}
use Rattle.file_journal.specs.Changes.{numbered}
use Rattle.file_journal.proofs.words.numbered.Given as goal

abbrev pub invariant-loop-k : goal.invariant-loop-k
invariant-loop-k l = l.words.items ≡ numbered l.first (take l.k l.values)
