use Rattle.nvm_model.proofs.LostLemmas.{lose_at-here, lose_at-beside, nth-lost, nth-beside}
use Rattle.nvm_model.proofs.media_laws.a_block_loses_one_line.Goals as goal

pub returns-clause-block : goal.returns-clause-block
returns-clause-block c = nth-lost

pub returns-clause-others : goal.returns-clause-others
returns-clause-others c = nth-beside

pub returns-clause-line : goal.returns-clause-line
returns-clause-line c = lose_at-here

pub returns-clause-other_lines : goal.returns-clause-other_lines
returns-clause-other_lines c = lose_at-beside
