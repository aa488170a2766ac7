use Rattle.std.proofs.Common.{arith}
use Rattle.line_words.proofs.FrameLemmas.{outside-refl}
use Rattle.page_lines.proofs.OthersLemmas.{others-refl}
use Rattle.file_actions.proofs.discarding.discard.Goals as goal

pub returns-in_err-check_discard-clause-beside : goal.returns-in_err-check_discard-clause-beside
returns-in_err-check_discard-clause-beside g c = outside-refl _ _

pub returns-in_err-check_discard-clause-outside : goal.returns-in_err-check_discard-clause-outside
returns-in_err-check_discard-clause-outside g c = others-refl _ _

pub returns-clause-held : goal.returns-clause-held
returns-clause-held g c = λ settled. omega (arith, c.in_ok-make_holes.ensures.units.known)
