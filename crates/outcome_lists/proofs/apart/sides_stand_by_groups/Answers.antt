use Rattle.outcome_lists.proofs.RunLemmas.{stands_by_groups}
use Rattle.outcome_lists.proofs.apart.sides_stand_by_groups.Goals as goal

pub returns : goal.returns
returns c = stands_by_groups
