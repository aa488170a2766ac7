use Rattle.std.proofs.Common.{[], ◌∷◌, ap₂, subst, sym, ◌∙◌}
use Rattle.explorer.proofs.CutPlaces.StepLemmas.{on_found}
use Rattle.outcome_lists.specs.Choices.{choices_from}
use Rattle.outcome_lists.specs.Courses.{AllWith}
use Rattle.outcome_lists.specs.Outcomes.{nothing}
use Rattle.outcome_lists.proofs.PartAskedLemmas.{all_choices}
use Rattle.outcome_lists.proofs.levels.choices_of.Goals as goal

pub returns-clause-choices : goal.returns-clause-choices
returns-clause-choices c = λ h from.
    let follows = c.in_ok-sight.ensures.follows h from.follows in
    on_found c.choices_from.result
    (λ found is. is ∙ ap₂ (choices_from c.args.part.now) (c.in_ok-gathered.ensures.values h follows from.done) (c.in_ok-gathered.ensures.blocks h follows from.done))
    c.choices_from.ensures

pub returns-clause-ways : goal.returns-clause-ways
returns-clause-ways c =
    let sight = c.args.course.now.sight.now in
    let geo = c.args.course.now.geometry in
    let part = c.args.part.now in
    on_found c.choices_from.result
    (λ found is. subst (AllWith sight geo (part ∷ []) nothing) (sym is)
    (all_choices sight geo part c.in_ok-gathered.gathered.word.word.values.items c.in_ok-gathered.gathered.blocks.items c.requires.part c.requires.at.files))
    c.choices_from.ensures
