use Rattle.durable.proofs.UnsyncedLemmas.{unsynced}
use Rattle.durable.proofs.laws.what_is_not_synced_may_go.Goals as goal

pub returns : goal.returns
returns c = unsynced
