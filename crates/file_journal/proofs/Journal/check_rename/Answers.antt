use Rattle.file_journal.proofs.ReplaceLemmas.{may_unnamed}
use Rattle.file_journal.proofs.Journal.check_rename.Goals as goal

pub returns-clause-may : goal.returns-clause-may
returns-clause-may g c = may_unnamed c.args.self.now.tables.files _ _ c.in_ok-check_unnamed.ensures.unnamed
