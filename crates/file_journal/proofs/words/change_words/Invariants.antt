use Rattle.std.proofs.Common.{◌≡◌, take}
use Rattle.file_journal.specs.Changes.{change_words}
use Rattle.file_journal.proofs.words.change_words.Given as goal

abbrev pub invariant-loop-page : goal.invariant-loop-page
invariant-loop-page l = l.words.items ≡ change_words l.geo l.inode l.slot (take l.page-index l.switches)
