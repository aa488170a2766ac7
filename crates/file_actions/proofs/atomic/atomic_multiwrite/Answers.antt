use Rattle.page_lines.proofs.OthersLemmas.{others-refl}
use Rattle.file_actions.proofs.atomic.atomic_multiwrite.Goals as goal

pub returns-in_err-check_write-clause-outside : goal.returns-in_err-check_write-clause-outside
returns-in_err-check_write-clause-outside g c = others-refl _ _
