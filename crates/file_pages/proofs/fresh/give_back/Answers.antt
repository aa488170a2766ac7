use Rattle.std.proofs.Common.{Bool, List, ap, set, true, ◌∙◌}
use Rattle.file_journal.specs.Object.{JournalState}
use Rattle.file_pages.proofs.FreshLemmas.{given_back}
use Rattle.file_pages.proofs.fresh.give_back.Goals as goal

pub returns-clause-before : goal.returns-clause-before
returns-clause-before c = λ before takes.
    c.give_unit.ensures.after
    ∙ ap (λ (j : JournalState). record j { free = set j.free c.args.unit true }) takes.after
    ∙ ap (λ (free : List Bool). record before { free = free }) (given_back before.free c.args.unit takes.free)
