use Rattle.std.proofs.Common.{ℕ, IsNone, ◌↔◌, subst}
use Rattle.inode_table.specs.Slots.{IsNamed}
use Rattle.file_journal.specs.Object.{JournalState}
use Rattle.file_journal.proofs.Journal.find.Goals as goal

pub returns-clause-none : goal.returns-clause-none
returns-clause-none c =
    subst (λ (t : JournalState). IsNone c.find.result ↔ ((inode : ℕ) → IsNamed t.tables.files inode c.args.name.now → ⊥)) c.self.view_is c.find.ensures.none
