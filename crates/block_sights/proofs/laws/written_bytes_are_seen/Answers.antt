use Rattle.block_sights.proofs.WrittenLemmas.{ranges_seen, written_seen}
use Rattle.block_sights.proofs.laws.written_bytes_are_seen.Goals as goal

pub returns-clause-written : goal.returns-clause-written
returns-clause-written c = written_seen

pub returns-clause-ranges : goal.returns-clause-ranges
returns-clause-ranges c = ranges_seen
