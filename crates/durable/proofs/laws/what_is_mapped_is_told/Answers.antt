use Rattle.durable.proofs.MappedLemmas.{durable_alike, mapped_as_told}
use Rattle.durable.proofs.WithinLemmas.{within_run}
use Rattle.durable.proofs.laws.what_is_mapped_is_told.Goals as goal

pub returns-clause-told : goal.returns-clause-told
returns-clause-told c = mapped_as_told

pub returns-clause-blind : goal.returns-clause-blind
returns-clause-blind c = λ geo one other action alike. durable_alike geo action one other alike

pub returns-clause-within : goal.returns-clause-within
returns-clause-within c = within_run
