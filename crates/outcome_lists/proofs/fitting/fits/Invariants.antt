use Rattle.std.proofs.Common.{◌≡◌, [], ◌∷◌, ◌++◌, List, Option, map}
use Rattle.script_text.specs.declared.command.Command.{Command}
use Rattle.explorer.specs.MachineModel.Machine.{Machine}
use Rattle.explorer.specs.Outcomes.Seen.{may_show}
use Rattle.explorer.specs.AskedReads.Program.{inputs_of_lines}
use Rattle.explorer.specs.CutPlaces.Following.{IsWhole}
use Rattle.explorer.specs.ValueTables.Looking.{IsOf}
use Rattle.outcome_lists.specs.Asking.{asked}
use Rattle.outcome_lists.specs.Choices.{states}
use Rattle.outcome_lists.specs.Courses.{IsFrom}
use Rattle.outcome_lists.specs.Outcomes.{look_of}
use Rattle.outcome_lists.proofs.CourseLemmas.{Reaches}
use Rattle.outcome_lists.proofs.fitting.fits.Given as goal

abbrev pub invariant-loop-i : goal.invariant-loop-i
invariant-loop-i l = record {
  looks : IsOf l.sight l.course.geometry (l.part ∷ []);
  whole : IsWhole l.sight l.question;
  reaches : (h : Machine) → IsFrom l.course h → Reaches l.course.program.now l.course.done.now l.course.geometry l.i l.sight (λ (to : Machine) (lines : List (Option Command)).
      l.fits.items ++ map (may_show (look_of (asked l.question))) (states to (inputs_of_lines lines)) ≡ map (may_show (look_of (asked l.question)))
      (states h (inputs_of_lines l.course.program.now)));
}
