use Rattle.line_words.proofs.BesideLemmas.{beside-refl}
use Rattle.file_pages.proofs.durable.make_good.Goals as goal

pub returns-else-is_weak-clause-outside : goal.returns-else-is_weak-clause-outside
returns-else-is_weak-clause-outside g c = beside-refl _ _
