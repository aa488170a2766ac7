use Rattle.outcome_lists.proofs.InsideLemmas.{groups_inside}
use Rattle.outcome_lists.proofs.RestLemmas.{each_at_rest}
use Rattle.outcome_lists.proofs.apart.looks_are_shown_group_by_group.Goals as goal

pub returns-clause-rest : goal.returns-clause-rest
returns-clause-rest c = each_at_rest

pub returns-clause-inside : goal.returns-clause-inside
returns-clause-inside c = groups_inside
