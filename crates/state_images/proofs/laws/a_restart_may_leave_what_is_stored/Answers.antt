use Rattle.state_images.proofs.laws.a_restart_may_leave_what_is_stored.Goals as goal
use Rattle.state_images.proofs.MachineLemmas.{image-left, run-back}

pub returns-clause-image : goal.returns-clause-image
returns-clause-image c = image-left

pub returns-clause-run : goal.returns-clause-run
returns-clause-run c = run-back
