use Rattle.std.proofs.Common.{refl}
use Rattle.line_device.specs.Word.{word_from}
use Rattle.line_module.specs.Survivors.{drawn, mixed_word}
use Rattle.line_module.proofs.laws.survivors_of_eight_bytes.Goals as goal

pub returns-clause-index : goal.returns-clause-index
unfolding drawn
returns-clause-index c = (refl, refl, refl, refl, refl, refl, refl, refl)

pub returns-clause-kept : goal.returns-clause-kept
unfolding drawn mixed_word word_from
returns-clause-kept c = refl
