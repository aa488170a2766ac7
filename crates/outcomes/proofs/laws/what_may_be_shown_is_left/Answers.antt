use Rattle.outcomes.proofs.BlocksShownLemmas.{blocks_found}
use Rattle.outcomes.proofs.FilesShownLemmas.{files_found}
use Rattle.outcomes.proofs.VolumeLemmas.{volume_found}
use Rattle.outcomes.proofs.laws.what_may_be_shown_is_left.Goals as goal

pub returns-clause-volume : goal.returns-clause-volume
returns-clause-volume c = volume_found

pub returns-clause-blocks : goal.returns-clause-blocks
returns-clause-blocks c = blocks_found

pub returns-clause-files : goal.returns-clause-files
returns-clause-files c = files_found
