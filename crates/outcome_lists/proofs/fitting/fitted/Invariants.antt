use Rattle.std.proofs.Common.{◌≡◌, [], ◌∷◌, drop, map, take}
use Rattle.explorer.specs.MachineModel.Machine.{Machine}
use Rattle.explorer.specs.AskedReads.Program.{inputs_of_lines}
use Rattle.outcome_walk.specs.Holding.{ways_held}
use Rattle.outcome_lists.specs.Asking.{choices_held}
use Rattle.outcome_lists.specs.Choices.{states}
use Rattle.outcome_lists.specs.Courses.{AllWith, IsFrom}
use Rattle.outcome_lists.specs.Levels.{fitted}
use Rattle.outcome_lists.specs.Outcomes.{nothing}
use Rattle.outcome_lists.proofs.fitting.fitted.Given as goal

abbrev pub invariant-loop-choice : goal.invariant-loop-choice
invariant-loop-choice l = record {
  ways : AllWith l.course.sight.now l.course.geometry (l.part ∷ []) nothing (choices_held (drop l.choice-index l.choices));
  found : (h : Machine) → IsFrom l.course h
      → ways_held l.found.items ≡ map (fitted (states h (inputs_of_lines l.course.program.now))) (choices_held (take l.choice-index l.choices));
}
