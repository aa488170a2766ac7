use Rattle.state_images.proofs.laws.the_metadata_is_good.Goals as goal
use Rattle.state_images.proofs.GoodLemmas.{metadata-good, metadata-strong}

pub returns-clause-good : goal.returns-clause-good
returns-clause-good c = metadata-good

pub returns-clause-strong : goal.returns-clause-strong
returns-clause-strong c = metadata-strong
