use Rattle.std.proofs.Common.{◌++◌, ap, ◌∙◌}
use Rattle.std.proofs.lemmas.Result.{on_ok_weaker}
use Rattle.outcome_walk.specs.Numbers.{numeral, value_of}
use Rattle.outcome_walk.proofs.NumberLemmas.{numeral_decimal}
use Rattle.outcome_walk.proofs.tally.Tally.print.Goals as goal

pub returns-clause-decimal : goal.returns-clause-decimal
returns-clause-decimal c = λ within.
    let value = ap value_of c.deref.ensures.value ∙ c.self.view_is in
    on_ok_weaker c.print_digits.result (λ is. is ∙ ap (λ text. c.args.out.now.items ++ text) (ap numeral value ∙ numeral_decimal c.args.self.now within)) c.print_digits.ensures
