use Rattle.image_file.proofs.ShownLemmas.{depicted_last, snapshot_last}
use Rattle.image_file.proofs.laws.extracted_lines_are_the_last.Goals as goal

pub returns-clause-words : goal.returns-clause-words
returns-clause-words c = depicted_last

pub returns-clause-image : goal.returns-clause-image
returns-clause-image c = snapshot_last
