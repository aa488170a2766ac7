use Rattle.std.proofs.Common.{ℕ, refl, subst}
use Rattle.inode_table.specs.Slots.{IsNamed}
use Rattle.file_journal.specs.Object.{JournalState}
use Rattle.file_journal.proofs.Journal.check_unnamed.Goals as goal

pub returns-in-None-clause-unnamed : goal.returns-in-None-clause-unnamed
returns-in-None-clause-unnamed c =
    subst (λ (t : JournalState). (inode : ℕ) → IsNamed t.tables.files inode c.args.name.now → ⊥) c.self.view_is (c.in-None.ensures.none.0 refl)
