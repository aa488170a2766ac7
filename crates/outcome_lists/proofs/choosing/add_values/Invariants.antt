use Rattle.std.proofs.Common.{◌≡◌, ◌++◌, map, take}
use Rattle.outcome_lists.specs.Asking.{choices_held}
use Rattle.outcome_lists.specs.Choices.{head, value_choice}
use Rattle.outcome_lists.specs.Words.{part_of_word, seen_of_word}
use Rattle.outcome_lists.proofs.choosing.add_values.Given as goal

abbrev pub invariant-loop-value : goal.invariant-loop-value
invariant-loop-value l =
    choices_held l.choices.items ≡ choices_held l.fn.choices.items ++ map (value_choice (head (part_of_word l.word)) (seen_of_word l.word)) (take l.value-index l.values)
