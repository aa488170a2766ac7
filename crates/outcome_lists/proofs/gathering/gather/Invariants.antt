use Rattle.std.proofs.Common.{◌≡◌, [], ◌∷◌, List, Option}
use Rattle.script_text.specs.declared.command.Command.{Command}
use Rattle.explorer.specs.MachineModel.Machine.{Machine}
use Rattle.explorer.specs.AskedReads.Program.{inputs_of_lines}
use Rattle.explorer.specs.CutPlaces.Following.{AreDone, Follows}
use Rattle.explorer.specs.ValueTables.Looking.{IsOf}
use Rattle.outcome_lists.specs.Choices.{sights_through, states, values_through}
use Rattle.outcome_lists.proofs.CourseLemmas.{Reaches}
use Rattle.outcome_lists.proofs.gathering.gather.Given as goal

abbrev pub invariant-loop-i : goal.invariant-loop-i
invariant-loop-i l = record {
  looks : IsOf l.sight l.course.geometry (l.part ∷ []);
  reaches : (h : Machine) → Follows l.fn.sight l.course.geometry h → AreDone h l.course.program.now l.course.done.now
      → Reaches l.course.program.now l.course.done.now l.course.geometry l.i l.sight (λ (to : Machine) (lines : List (Option Command)).
      (values_through l.part l.gathered.word.word.values.items (states to (inputs_of_lines lines)) ≡ values_through l.part [] (states h (inputs_of_lines l.course.program.now)))
      × (sights_through l.part l.gathered.blocks.items (states to (inputs_of_lines lines)) ≡ sights_through l.part [] (states h (inputs_of_lines l.course.program.now))));
}
