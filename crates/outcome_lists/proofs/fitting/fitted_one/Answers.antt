use Rattle.std.proofs.Common.{[], ◌∷◌, ap, subst, sym, ◌∙◌}
use Rattle.explorer.specs.AskedReads.Program.{inputs_of_lines}
use Rattle.outcome_lists.specs.Asking.{asked, choice_held, seen_asked}
use Rattle.outcome_lists.specs.Choices.{states}
use Rattle.outcome_lists.specs.Courses.{AreOf}
use Rattle.outcome_lists.specs.Outcomes.{and_seen}
use Rattle.outcome_lists.proofs.FitLemmas.{asks_nothing, way_is}
use Rattle.outcome_lists.proofs.fitting.fitted_one.Goals as goal

pub fits-requires-clause-way : goal.fits-requires-clause-way
fits-requires-clause-way c =
    let asks = asks_nothing (record { volume = c.new.result; blocks = c.new-2.result; files = c.new-3.result }) c.new.ensures.items c.new-2.ensures.items c.new-3.ensures.items in
    subst (AreOf c.args.course.now.sight.now c.args.course.now.geometry (c.args.part.now ∷ []))
    (sym (c.in_ok-add_to.ensures ∙ ap (λ a. and_seen a (seen_asked c.args.choice.now.asks)) asks)) c.requires.way

pub returns : goal.returns
returns c = λ h from.
    let asks = asks_nothing (record { volume = c.new.result; blocks = c.new-2.result; files = c.new-3.result }) c.new.ensures.items c.new-2.ensures.items c.new-3.ensures.items in
    way_is (states h (inputs_of_lines c.args.course.now.program.now)) (choice_held c.args.choice.now) (asked c.add_to.new.question)
    (record { text = c.in_ok-bytes_copy.field-0; fits = c.in_ok-fits.field-0 })
    (c.in_ok-add_to.ensures ∙ ap (λ a. and_seen a (seen_asked c.args.choice.now.asks)) asks) (c.in_ok-bytes_copy.ensures ∙ c.as_slice.ensures) (c.in_ok-fits.ensures h from)
