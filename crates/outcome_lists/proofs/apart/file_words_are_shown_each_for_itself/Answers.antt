use Rattle.outcome_lists.proofs.ApartFilesLemmas.{files_pass_apart}
use Rattle.outcome_lists.proofs.apart.file_words_are_shown_each_for_itself.Goals as goal

pub returns : goal.returns
returns c = λ reads files are lines values mappings o. files_pass_apart reads are files lines values mappings o
