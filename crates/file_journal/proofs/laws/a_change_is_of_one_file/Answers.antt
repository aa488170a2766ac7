use Rattle.file_journal.proofs.FilesOfLemmas.{files_of-created}
use Rattle.file_journal.proofs.NamedFileLemmas.{files_of-deleted, files_of-renamed, files_of-resized, files_of-switched}
use Rattle.file_journal.proofs.laws.a_change_is_of_one_file.Goals as goal

pub returns-clause-created : goal.returns-clause-created
returns-clause-created c = λ size pages t name are few none room. files_of-created size t are name pages few none room

pub returns-clause-deleted : goal.returns-clause-deleted
returns-clause-deleted c = λ size t name are. files_of-deleted size t are name

pub returns-clause-renamed : goal.returns-clause-renamed
returns-clause-renamed c = λ size t name to are none. files_of-renamed size t are name to none

pub returns-clause-resized : goal.returns-clause-resized
returns-clause-resized c = λ size pages t name are few. files_of-resized size t are name pages few

pub returns-clause-switched : goal.returns-clause-switched
returns-clause-switched c = λ size inode t name switches are here. files_of-switched size t are name inode here switches
