use Rattle.std.proofs.Common.{refl, sym, subst, arith}
use Rattle.inode_table.specs.Slots.{IsNamed}
use Rattle.file_journal.specs.Object.{JournalState}
use Rattle.file_journal.proofs.ReplaceLemmas.{pages_at_most}
use Rattle.marked_lines.proofs.events.tell_file.Goals as goal

pub returns-in_default : goal.returns-in_default
returns-in_default g c inode named =
    absurd (c.in_default.ensures.none.0 refl inode (subst (λ (j : JournalState). IsNamed j.tables.files inode c.args.name.now) (sym c.journal-journal.ensures) named))

pub overflow_mul-lines : goal.overflow_mul-lines
overflow_mul-lines g c =
    let most = pages_at_most c.journal-journal.result.now.tables.files c.in-Some.inode c.pages.ensures.tables.names c.in-Some.ensures.within in
    omega (arith, most)
