use Rattle.block_sights.proofs.LostLemmas.{block_lost}
use Rattle.block_sights.proofs.laws.lost_lines_are_seen.Goals as goal

pub returns : goal.returns
returns c = block_lost
