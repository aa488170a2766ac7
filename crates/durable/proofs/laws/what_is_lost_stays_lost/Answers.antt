use Rattle.durable.proofs.LostLemmas.{poisoned, poisoned_block, poisoned_in_file, stays_lost, worn_out}
use Rattle.durable.proofs.VerifyLemmas.{none_lost, verified}
use Rattle.durable.proofs.laws.what_is_lost_stays_lost.Goals as goal

pub returns-clause-poisoned : goal.returns-clause-poisoned
returns-clause-poisoned c = poisoned

pub returns-clause-poisoned_in_file : goal.returns-clause-poisoned_in_file
returns-clause-poisoned_in_file c = poisoned_in_file

pub returns-clause-of_a_block : goal.returns-clause-of_a_block
returns-clause-of_a_block c = poisoned_block

pub returns-clause-worn_out : goal.returns-clause-worn_out
returns-clause-worn_out c = worn_out

pub returns-clause-stays : goal.returns-clause-stays
returns-clause-stays c = stays_lost

pub returns-clause-verified : goal.returns-clause-verified
returns-clause-verified c = verified

pub returns-clause-none_lost : goal.returns-clause-none_lost
returns-clause-none_lost c = none_lost
