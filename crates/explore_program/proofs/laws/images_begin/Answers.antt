use Rattle.explore_program.proofs.BeginLemmas.{begins_opened}
use Rattle.explore_program.proofs.laws.images_begin.Goals as goal

pub returns : goal.returns
returns c = λ image are. begins_opened c.runs_keep_states.ensures.mounted image are.unit are.right are.snapshot.whole are.bytes
