use Rattle.file_journal.proofs.EntryLemmas.{entries-files_of, length-files_of}
use Rattle.file_journal.proofs.NamedFileLemmas.{has_file-files_of}
use Rattle.file_journal.proofs.laws.files_are_those_of_the_inodes.Goals as goal

pub returns-clause-names : goal.returns-clause-names
returns-clause-names c = λ size t name are. has_file-files_of size t are name

pub returns-clause-entries : goal.returns-clause-entries
returns-clause-entries c = entries-files_of

pub returns-clause-number : goal.returns-clause-number
returns-clause-number c = length-files_of
