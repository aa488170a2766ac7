use Rattle.file_journal.specs.Reading.{words_read}
use Rattle.file_journal.proofs.TableReadLemmas.{length-words_read, no_wrong_file, right_tables, tables_read-replays}
use Rattle.file_journal.proofs.laws.words_that_hold_tables_read_as_them.Goals as goal

pub returns-clause-tables : goal.returns-clause-tables
returns-clause-tables c = tables_read-replays

pub returns-clause-none_wrong : goal.returns-clause-none_wrong
returns-clause-none_wrong c = no_wrong_file

pub returns-clause-right : goal.returns-clause-right
returns-clause-right c = λ geo image valid none. right_tables geo (words_read geo image) valid (length-words_read geo image) none
