-- A script up to its look: the lines of its program, and what stands in them.
use Rattle.std.specs.Prelude.{ℕ, Bool, true, false, ◌&&◌, ◌||◌, ◌+◌, List, [], ◌∷◌, ◌++◌, length, is_some, if◌then◌else◌, Option, Some, None, Result, Ok, Err}
use Rattle.script_text.specs.Action.{Action}
use Rattle.exploration.specs.Lines.{ProgramLine, program_line}
use Rattle.exploration.specs.Lines.ProgramLine.{Begins, Does, Ends, Refuses}
use Rattle.exploration.specs.declared.reason.Reason.{Reason}
use Rattle.exploration.specs.declared.reason.Reason.TheVariants.{Again, NoCommand, NothingAsked}

-- the command of a line
abbrev pub action_in : ProgramLine → Option Action
action_in (Does item) = item
action_in Begins = None
action_in Refuses = None
action_in Ends = None

-- it is `# begin`
abbrev pub is_begin : ProgramLine → Bool
is_begin (Does item) = false
is_begin Begins = true
is_begin Refuses = false
is_begin Ends = false

-- one of them is
abbrev pub has_begin : List ProgramLine → Bool
has_begin [] = false
has_begin (line ∷ lines) = is_begin line || has_begin lines

-- the commands of lines up to `# begin`
abbrev pub first_of : List ProgramLine → List (Option Action)
first_of [] = []
first_of (line ∷ lines) = if has_begin (line ∷ lines) then action_in line ∷ first_of lines else []

-- the commands after it, in the place of each other one none
abbrev pub program_of : List ProgramLine → List (Option Action)
program_of [] = []
program_of (line ∷ lines) = (if has_begin (line ∷ lines) then None else action_in line) ∷ program_of lines

-- whether the next command is to be refused, after a line before which that was so or not
abbrev pub marks_after : Bool → ProgramLine → Bool
marks_after marks (Does None) = marks
marks_after marks (Does (Some action)) = false
marks_after marks Begins = marks
marks_after marks Refuses = true
marks_after marks Ends = marks

-- after some lines
abbrev pub marks_from : Bool → List ProgramLine → Bool
marks_from marks [] = marks
marks_from marks (line ∷ lines) = marks_from (marks_after marks line) lines

-- of each line, whether its command is to be refused
abbrev pub refused_from : Bool → List ProgramLine → List Bool
refused_from marks [] = []
refused_from marks (line ∷ lines) = (marks && is_some (action_in line)) ∷ refused_from (marks_after marks line) lines

-- a line is a command, or one comes later; none does after the program's end
abbrev pub command_or : Result ProgramLine Reason → Bool → Bool
command_or (Err why) later = later
command_or (Ok (Does None)) later = later
command_or (Ok (Does (Some action))) later = true
command_or (Ok Begins) later = later
command_or (Ok Refuses) later = later
command_or (Ok Ends) later = false

-- a command of the program is among lines; one that is not taken is none
abbrev pub has_command : List (List ℕ) → Bool
has_command [] = false
has_command (line ∷ lines) = command_or (program_line line) (has_command lines)

-- a line after some of the program and before others, or why it is not taken there
abbrev pub placed : List ProgramLine → List (List ℕ) → ProgramLine → Result ProgramLine Reason
placed before later (Does item) = Ok (Does item)
placed before later Begins = if has_begin before then Err Again else Ok Begins
placed before later Refuses = if marks_from false before then Err Again else (if has_command later then Ok Refuses else Err NoCommand)
placed before later Ends = Ok Ends

abbrev pub placed_line : List ProgramLine → List (List ℕ) → Result ProgramLine Reason → Result ProgramLine Reason
placed_line before later (Err why) = Err why
placed_line before later (Ok line) = placed before later line

-- the line of a script that is not taken, and why
pub record Untaken : Type 0 where
  pub number : ℕ
  pub why : Reason

-- the rest where there is something to go on from, and else the line of that number
abbrev pub go_on : {A B : Type 0} → ℕ → (A → Result B Untaken) → Result A Reason → Result B Untaken
go_on n rest (Err why) = Err (record { number = n; why = why })
go_on n rest (Ok a) = rest a

-- a script in two parts: the lines of its program, and those of the look
pub record Parts : Type 0 where
  pub lines : List ProgramLine
  pub look : List (List ℕ)

-- one line more: the end of the program before the lines of the look, or one from which the rest goes on
abbrev pub part_by : List ProgramLine → List (List ℕ) → (List ProgramLine → Result Parts Untaken) → ProgramLine → Result Parts Untaken
part_by before later rest (Does item) = rest (before ++ Does item ∷ [])
part_by before later rest Begins = rest (before ++ Begins ∷ [])
part_by before later rest Refuses = rest (before ++ Refuses ∷ [])
part_by before later rest Ends = Ok (record { lines = before; look = later })

-- after some lines of a program: the others, and without a look nothing is asked
abbrev pub parts_from : List ProgramLine → List (List ℕ) → Result Parts Untaken
parts_from before [] = Err (record { number = length before + 1; why = NothingAsked })
parts_from before (line ∷ lines) =
    go_on (length before + 1) (part_by before lines (λ more. parts_from more lines)) (placed_line before lines (program_line line))
