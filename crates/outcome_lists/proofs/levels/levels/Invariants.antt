use Rattle.std.proofs.Common.{◌≡◌, ◌++◌, None, true, drop}
use Rattle.std.specs.List.{list_all}
use Rattle.std.specs.Option.{option_map}
use Rattle.explorer.specs.AskedReads.Program.{inputs_of_lines}
use Rattle.explorer.specs.CutPlaces.SeesFiles.{is_held}
use Rattle.explorer.specs.MachineModel.Machine.{Machine}
use Rattle.outcome_walk.specs.Holding.{parts_held}
use Rattle.explorer.specs.SightsSeen.Units.{block_numbers, line_numbers}
use Rattle.explorer.specs.ValueTables.Looking.{blocks_looked_at, file_lines_looked_at, lines_looked_at}
use Rattle.outcome_lists.specs.Choices.{states}
use Rattle.outcome_lists.specs.Courses.{IsFrom}
use Rattle.outcome_lists.specs.Levels.{levels}
use Rattle.outcome_lists.specs.Parts.{AreParts}
use Rattle.outcome_lists.proofs.levels.levels.Given as goal

abbrev pub invariant-loop-part : goal.invariant-loop-part
invariant-loop-part l = record {
  lines : drop l.passed.lines (line_numbers l.course.sight.now.lines.items) ≡ lines_looked_at l.course.geometry (drop l.part-index l.parts);
  blocks : drop l.passed.blocks (block_numbers l.course.sight.now.blocks.items) ≡ blocks_looked_at l.course.geometry (drop l.part-index l.parts);
  files : list_all (is_held l.course.sight.now.files.numbers) (file_lines_looked_at l.course.geometry (drop l.part-index l.parts)) ≡ true;
  parts : AreParts l.course.geometry (drop l.part-index l.parts);
  found : (h : Machine) → IsFrom l.course h
      → parts_held l.found.items ++ levels l.places (states h (inputs_of_lines l.course.program.now)) (option_map (λ read. read.now) l.before) (drop l.part-index l.parts)
      ≡ levels l.places (states h (inputs_of_lines l.course.program.now)) None l.parts;
}
