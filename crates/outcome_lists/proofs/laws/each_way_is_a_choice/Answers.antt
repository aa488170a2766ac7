use Rattle.outcome_lists.proofs.ChoiceLemmas.{blocks, file_words, words}
use Rattle.outcome_lists.proofs.laws.each_way_is_a_choice.Goals as goal

pub returns-clause-words : goal.returns-clause-words
returns-clause-words c = λ h program p bytes ready sound is_program within eight. words h program ready sound is_program p bytes eight within

pub returns-clause-blocks : goal.returns-clause-blocks
returns-clause-blocks c = λ h program b sight ready sound is_program within sized. blocks h program ready sound is_program b sight within sized

pub returns-clause-file_words : goal.returns-clause-file_words
returns-clause-file_words c = λ h program name p bytes ready sound is_program eight. file_words h program ready sound is_program p bytes eight name
