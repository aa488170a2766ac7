use Rattle.outcome_lists.proofs.GroupLemmas.{each_alone, groups_apart}
use Rattle.outcome_lists.proofs.apart.words_are_shown_each_for_itself.Goals as goal

pub returns-clause-rest : goal.returns-clause-rest
returns-clause-rest c = each_alone

pub returns-clause-groups : goal.returns-clause-groups
returns-clause-groups c = groups_apart
