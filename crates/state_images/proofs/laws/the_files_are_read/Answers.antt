use Rattle.state_images.proofs.laws.the_files_are_read.Goals as goal
use Rattle.state_images.proofs.FileLemmas.{files-read}

pub returns : goal.returns
returns c = files-read
