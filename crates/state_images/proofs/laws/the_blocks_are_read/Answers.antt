use Rattle.state_images.proofs.laws.the_blocks_are_read.Goals as goal
use Rattle.state_images.proofs.BlockLemmas.{blocks-are}

pub returns : goal.returns
returns c = blocks-are
