use Rattle.file_journal.proofs.ReplaceLemmas.{may_named}
use Rattle.file_journal.proofs.Journal.check_resize.Goals as goal

pub returns-clause-may : goal.returns-clause-may
returns-clause-may g c = may_named c.args.self.now.tables.files _ c.args.name.now c.in_ok-inode.ensures.table c.in_ok-inode.ensures.named
