use Rattle.page_lines.proofs.OthersLemmas.{others-refl}
use Rattle.page_lines.proofs.putting.make_healthy.Goals as goal

pub returns-else-is_bad-clause-outside : goal.returns-else-is_bad-clause-outside
returns-else-is_bad-clause-outside g c = others-refl _ _
