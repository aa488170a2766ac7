use Rattle.recovery.proofs.AgainLemmas.{durable_blocks, goes_on-mounted, goes_on-restarted, goes_on-waited}
use Rattle.recovery.proofs.laws.mounts_again.Goals as goal

pub returns-clause-durable : goal.returns-clause-durable
returns-clause-durable c = durable_blocks

pub returns-clause-mounted : goal.returns-clause-mounted
returns-clause-mounted c = goes_on-mounted

pub returns-clause-restarted : goal.returns-clause-restarted
returns-clause-restarted c = goes_on-restarted

pub returns-clause-waited : goal.returns-clause-waited
returns-clause-waited c = goes_on-waited
