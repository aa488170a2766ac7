use Rattle.durable.proofs.LawLemmas.{lasts_powered}
use Rattle.durable.proofs.FileWrittenLemmas.{mapped_powered, stored_in_powered}
use Rattle.durable.proofs.WrittenLemmas.{stored_powered}
use Rattle.durable.proofs.laws.what_is_there_stays_while_powered.Goals as goal

pub returns-clause-stays : goal.returns-clause-stays
returns-clause-stays c = lasts_powered

pub returns-clause-stored : goal.returns-clause-stored
returns-clause-stored c = stored_powered

pub returns-clause-in_file : goal.returns-clause-in_file
returns-clause-in_file c = stored_in_powered

pub returns-clause-through_a_mapping : goal.returns-clause-through_a_mapping
returns-clause-through_a_mapping c = mapped_powered
