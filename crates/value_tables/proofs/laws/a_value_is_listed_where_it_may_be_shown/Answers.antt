use Rattle.value_tables.proofs.BlockLemmas.{blocks_listed}
use Rattle.value_tables.proofs.FileListedLemmas.{file_poison_listed, file_words_listed, missing_listed, past_listed}
use Rattle.value_tables.proofs.ListedLemmas.{poison_listed, words_listed}
use Rattle.value_tables.proofs.laws.a_value_is_listed_where_it_may_be_shown.Goals as goal

pub returns-clause-words : goal.returns-clause-words
returns-clause-words c = λ off p bytes sound within eight. words_listed off p sound within bytes eight

pub returns-clause-poison : goal.returns-clause-poison
returns-clause-poison c = λ off p sound within. poison_listed off p sound within

pub returns-clause-blocks : goal.returns-clause-blocks
returns-clause-blocks c = λ off b sight within size. blocks_listed off b within sight size

pub returns-clause-missing : goal.returns-clause-missing
returns-clause-missing c = λ off name p sound. missing_listed off name p sound.file_lines

pub returns-clause-range : goal.returns-clause-range
returns-clause-range c = λ off name p sound. past_listed off name p sound.file_lines

pub returns-clause-file_words : goal.returns-clause-file_words
returns-clause-file_words c = λ off name p bytes sound eight. file_words_listed off name p sound.file_lines sound.file_values bytes eight

pub returns-clause-file_poison : goal.returns-clause-file_poison
returns-clause-file_poison c = λ off name p sound. file_poison_listed off name p sound.file_lines sound.file_values
