use Rattle.outcome_lists.proofs.ApartBlocksLemmas.{blocks_pass_apart, distinct_blocks_apart}
use Rattle.outcome_lists.proofs.apart.blocks_are_shown_each_for_itself.Goals as goal

pub returns-clause-apart : goal.returns-clause-apart
returns-clause-apart c = λ reads are o blocks. blocks_pass_apart reads are o blocks

pub returns-clause-distinct : goal.returns-clause-distinct
returns-clause-distinct c = λ reads are old new. distinct_blocks_apart reads are old new
