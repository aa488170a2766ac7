-- What files end as, where a `&mut` to their journal was returned.
use Rattle.std.specs.Borrow.{Lends, Fml, MutBor}
use Rattle.file_journal.specs.Object.{JournalState}
use Rattle.file_journal.specs.contracts.Journal as journal
use Rattle.file_pages.specs.Object.{PagesState}
use Rattle.file_pages.specs.contracts.FilePages.{the_row}

-- once the borrow r ends, the journal is the one that r shows last
abbrev pub lends_journal : MutBor PagesState → MutBor JournalState → Fml
lends_journal pages r = Lends the_row journal.the_row pages r (λ j. record { journal = j; settled = pages.now.settled })
