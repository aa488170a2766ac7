use Rattle.durable.proofs.FileLemmas.{files_done, files_last, files_settle, files_through, files_told}
use Rattle.durable.proofs.laws.what_files_there_are_stays.Goals as goal

pub returns-clause-listed : goal.returns-clause-listed
returns-clause-listed c = files_told

pub returns-clause-stays : goal.returns-clause-stays
returns-clause-stays c = files_last

pub returns-clause-done : goal.returns-clause-done
returns-clause-done c = files_done

pub returns-clause-stopped : goal.returns-clause-stopped
returns-clause-stopped c = files_settle

pub returns-clause-whole : goal.returns-clause-whole
returns-clause-whole c = files_through
