use Rattle.durable.proofs.MetadataLemmas.{same_metadata, still_bad, stopped_at}
use Rattle.durable.proofs.NamingLemmas.{names_metadata}
use Rattle.durable.proofs.StepLemmas.{nothing_run}
use Rattle.durable.proofs.laws.what_bad_metadata_stops.Goals as goal

pub returns-clause-same : goal.returns-clause-same
returns-clause-same c = same_metadata

pub returns-clause-stays : goal.returns-clause-stays
returns-clause-stays c = still_bad

pub returns-clause-stopped : goal.returns-clause-stopped
returns-clause-stopped c = stopped_at

pub returns-clause-nothing : goal.returns-clause-nothing
returns-clause-nothing c = nothing_run

pub returns-clause-named : goal.returns-clause-named
returns-clause-named c = names_metadata
