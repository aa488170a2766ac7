-- A program that was performed, and what is looked at.
use Rattle.std.specs.Prelude.{◌≡◌, ℕ, All, true, List, length}
use Rattle.std.specs.List.{AllByRecursion, list_all}
use Rattle.word_tables.specs.Bounds.{IsValid}
use Rattle.word_tables.specs.declared.geometry.Geometry.{Geometry}
use Rattle.explorer.specs.Outcomes.Blocks.{all_numbers_read}
use Rattle.explorer.specs.Outcomes.Pages.{all_lines_read}
use Rattle.explorer.specs.Outcomes.Stops.{IsProgram}
use Rattle.explorer.specs.MachineModel.Machine.{Machine}
use Rattle.explorer.specs.AskedReads.declared.read.Read.{Read}
use Rattle.explorer.specs.AskedReads.Program.{IsBounded, inputs_of_lines}
use Rattle.explorer.specs.CutPlaces.declared.sight.Sight.{Sight}
use Rattle.explorer.specs.CutPlaces.Following.{AreDone, Follows}
use Rattle.explorer.specs.CutPlaces.SeesFiles.{are_held, is_held}
use Rattle.explorer.specs.SightsSeen.Units.{block_numbers, line_numbers}
use Rattle.explorer.specs.ValueTables.Looking.{blocks_looked_at, blocks_touched, file_lines_touched, lines_looked_at, lines_touched}
use Rattle.explorer.specs.ValueTables.Sides.{HasRun}
use Rattle.outcome_lists.specs.Choices.{Choice}
use Rattle.outcome_lists.specs.Outcomes.{Asked, and_seen}
use Rattle.outcome_lists.specs.declared.course.Course.{Course}

-- its commands are such, and it is told of each whether it is done
pub record IsCourse (course : Course) : Type 0 where
  pub valid : IsValid course.geometry
  pub program : IsProgram (inputs_of_lines course.program.now)
  pub bounded : All IsBounded course.program.now
  pub told : length course.done.now ≡ length course.program.now

-- it is one from that state on
pub record IsFrom (course : Course) (h : Machine) : Type 0 where
  pub follows : Follows course.sight.now course.geometry h
  pub done : AreDone h course.program.now course.done.now

-- the line, the block or the file of a part is looked at, at that place among lines, and among blocks
pub record IsAt (sight : Sight) (part : Read) (lines_before blocks_before : ℕ) : Type 0 where
  pub lines : HasRun (line_numbers sight.lines.items) lines_before (lines_touched part)
  pub blocks : HasRun (block_numbers sight.blocks.items) blocks_before (blocks_touched part)
  pub files : list_all (is_held sight.files.numbers) (file_lines_touched part) ≡ true

-- they are of these parts: of just their lines and blocks, and in files of lines that are looked at
pub record AreOf (sight : Sight) (geo : Geometry) (parts : List Read) (a : Asked) : Type 0 where
  pub lines : all_lines_read a.volume ≡ lines_looked_at geo parts
  pub blocks : all_numbers_read a.blocks ≡ blocks_looked_at geo parts
  pub files : are_held sight.files.numbers a.files ≡ true

-- with each of these choices they are of these parts
abbrev pub AllWith : Sight → Geometry → List Read → Asked → List Choice → Type 0
AllWith sight geo parts a choices = AllByRecursion (λ (c : Choice). AreOf sight geo parts (and_seen a c.seen)) choices
