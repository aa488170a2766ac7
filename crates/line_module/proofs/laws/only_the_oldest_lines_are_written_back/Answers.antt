use Rattle.line_module.proofs.ExactLemmas.{evicts_first}
use Rattle.line_module.proofs.laws.only_the_oldest_lines_are_written_back.Goals as goal

pub returns-clause-evict : goal.returns-clause-evict
returns-clause-evict c = evicts_first
