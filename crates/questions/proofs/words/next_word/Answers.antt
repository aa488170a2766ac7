use Rattle.std.proofs.Common.{refl, sym, ◌∙◌}
use Rattle.std.proofs.lemmas.List.{take_rest}
use Rattle.script_text.proofs.WordLemmas.{words_of-blank, words_of-first, first_within}
use Rattle.questions.proofs.words.next_word.Goals as goal

pub returns-in_err-start : goal.returns-in_err-start
returns-in_err-start c = rw c.from_residual.ensures (words_of-blank c.args.text.now (sym c.first_other.ensures ∙ c.in_err-start.was))

pub split_at-requires : goal.split_at-requires
split_at-requires c = rw c.unwrap_or-end.ensures (rw c.first_blank.ensures (first_within _))

pub returns : goal.returns
returns c =
    rw (c.split_at.ensures.front, c.split_at.ensures.back, take_rest) (words_of-first c.args.text.now c.in_ok-start.start c.unwrap_or-end.result (sym c.first_other.ensures ∙ c.in_ok-start.was) (c.unwrap_or-end.ensures ∙ rw (c.first_blank.ensures, take_rest) refl))
