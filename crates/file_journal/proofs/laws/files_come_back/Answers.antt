use Rattle.file_journal.proofs.RestartLemmas.{files-restarted, keeps_files-read, read-stands}
use Rattle.file_journal.proofs.laws.files_come_back.Goals as goal

pub returns-clause-keeps : goal.returns-clause-keeps
returns-clause-keeps c = files-restarted

pub returns-clause-stands : goal.returns-clause-stands
returns-clause-stands c = read-stands

pub returns-clause-again : goal.returns-clause-again
returns-clause-again c = keeps_files-read
