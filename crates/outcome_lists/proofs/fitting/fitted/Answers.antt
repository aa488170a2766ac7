use Rattle.std.proofs.Common.{List, [], ◌∷◌, subst}
use Rattle.explorer.specs.AskedReads.Program.{inputs_of_lines}
use Rattle.outcome_walk.specs.Holding.{way_held}
use Rattle.outcome_lists.specs.declared.choice.Choice.{Choice}
use Rattle.outcome_lists.specs.Asking.{choice_held, choices_held}
use Rattle.outcome_lists.specs.Choices.{states}
use Rattle.outcome_lists.specs.Courses.{AllWith}
use Rattle.outcome_lists.specs.Levels.{fitted}
use Rattle.outcome_lists.specs.Outcomes.{nothing}
use Rattle.explorer.proofs.CutPlaces.GoingLemmas.{at_line}
use Rattle.outcome_lists.proofs.MappedLemmas.{held_next}
use Rattle.outcome_lists.proofs.fitting.fitted.Goals as goal

pub fitted_one-requires-clause-way : goal.fitted_one-requires-clause-way
fitted_one-requires-clause-way c =
    let all = λ (cs : List Choice). AllWith c.args.course.now.sight.now c.args.course.now.geometry (c.args.part.now ∷ []) nothing (choices_held cs) in
    (subst all (at_line c.args.choices.now c.loop-choice.choice-index c.choice-item.result c.loop-choice-test.true c.choice-item.is) c.loop-choice.invariant.ways).0

pub loop-choice-preserved : goal.loop-choice-preserved
loop-choice-preserved c =
    let choices = c.args.choices.now in
    let i = c.loop-choice.choice-index in
    let x = c.choice-item.result in
    let lt = c.loop-choice-test.true in
    let all = λ (cs : List Choice). AllWith c.args.course.now.sight.now c.args.course.now.geometry (c.args.part.now ∷ []) nothing (choices_held cs) in
    record {
      ways = (subst all (at_line choices i x lt c.choice-item.is) c.loop-choice.invariant.ways).1;
      found = λ h from.
          held_next way_held choice_held (fitted (states h (inputs_of_lines c.args.course.now.program.now))) choices i x lt c.choice-item.is c.loop-choice.found.items
          c.push.new.self.items
          c.in_ok-fitted_one.field-0 c.in_ok-push.ensures.items (c.loop-choice.invariant.found h from) (c.in_ok-fitted_one.ensures h from);
    }
