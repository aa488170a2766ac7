use Rattle.std.proofs.Common.{[], ◌∷◌, ◌++◌, ap, ap₂, ◌∙◌}
use Rattle.outcome_lists.specs.Asking.{choices_held}
use Rattle.outcome_lists.specs.Choices.{head, word_choices}
use Rattle.outcome_lists.specs.Words.{part_of_word, seen_of_word, start_of_word}
use Rattle.outcome_lists.proofs.choosing.of_file_word.Goals as goal

pub returns : goal.returns
returns c =
    let words = word_choices (head (part_of_word c.args.word.now)) (seen_of_word c.args.word.now) (start_of_word c.args.word.now) c.args.values.now in
    let first = ap choices_held
    (c.in_ok-push-2.ensures.items ∙ ap (λ xs. xs ++ c.in_ok-range.range ∷ [])
    (c.in_ok-push.ensures.items ∙ ap (λ xs. xs ++ c.in_ok-missing.missing ∷ []) c.new-choices.ensures.items)) in
    c.in_ok-add_word.ensures ∙ ap (λ xs. xs ++ words) first
    ∙ ap₂ (λ a b. a ∷ b ∷ words) c.in_ok-missing.ensures c.in_ok-range.ensures
