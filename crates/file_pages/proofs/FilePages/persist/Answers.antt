use Rattle.page_lines.proofs.OthersLemmas.{others-refl}
use Rattle.file_pages.proofs.FilePages.persist.Goals as goal

pub returns-in_err-check_readable-clause-beside : goal.returns-in_err-check_readable-clause-beside
returns-in_err-check_readable-clause-beside g c = others-refl _ _

pub returns-in_err-check_readable-clause-outside : goal.returns-in_err-check_readable-clause-outside
returns-in_err-check_readable-clause-outside g c = others-refl _ _
