use Rattle.std.proofs.Common.{ap, sym, ◌∙◌}
use Rattle.std.specs.Option.{is_none}
use Rattle.explorer.proofs.PerformLemmas.{none_mapped, none_there}
use Rattle.explorer.proofs.performing.is_done.Goals as goal

pub returns-clause-done : goal.returns-clause-done
returns-clause-done g c = λ h stands ready.
    let came = c.in_ok-refused.ensures.done h stands ready in
    (ap is_none came.0 ∙ none_mapped c.in_ok-refused.refused ∙ none_there c.in_ok-refused.refused c.is_none.result (sym c.is_none.ensures), came.1)
