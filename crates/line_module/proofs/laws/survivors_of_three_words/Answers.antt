use Rattle.std.proofs.Common.{refl}
use Rattle.line_module.specs.Survivors.{drawn}
use Rattle.line_module.proofs.laws.survivors_of_three_words.Goals as goal

pub returns-clause-drawn : goal.returns-clause-drawn
unfolding drawn
returns-clause-drawn c = (refl, refl, refl)

pub returns-clause-index : goal.returns-clause-index
unfolding drawn
returns-clause-index c = (refl, refl, refl)
