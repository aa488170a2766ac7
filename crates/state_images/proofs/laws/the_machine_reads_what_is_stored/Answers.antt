use Rattle.state_images.proofs.laws.the_machine_reads_what_is_stored.Goals as goal
use Rattle.state_images.proofs.MachineLemmas.{reading-is}

pub returns : goal.returns
returns c = reading-is
