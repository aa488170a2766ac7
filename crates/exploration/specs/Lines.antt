-- What a line is in the program, and in the look.
use Rattle.std.specs.Prelude.{ℕ, List, Option, Some, None, Result, Ok, Err, is_some, if◌then◌else◌}
use Rattle.script_text.specs.Action.{Action}
use Rattle.script_text.specs.Script.{Input, line_input}
use Rattle.script_text.specs.Script.Input.{Skipped, Malformed, Overlong, Asked}
use Rattle.reply_text.specs.Answer.{Answer}
use Rattle.questions.specs.Question.{QuestionLine, question_line}
use Rattle.questions.specs.Question.QuestionLine.{Plain, Begins as AsksBegin, Refuses as AsksRefusal, Look as AsksLook, Lists as AsksList, Tabulates, Never, May, Misspelled, NoReply}
use Rattle.outcomes.specs.Stops.{is_of_program}
use Rattle.exploration.specs.Reads.{read_of}
use Rattle.exploration.specs.declared.asking.Wanted.{Wanted}
use Rattle.exploration.specs.declared.asking.Wanted.TheVariants as wanted
use Rattle.exploration.specs.declared.reason.Reason.{Reason}
use Rattle.exploration.specs.declared.reason.Reason.TheVariants as why

-- a line of the program: a command or none, the place from which cuts are asked about, a mark that the next command is to be refused, or
-- the end of the program, where the look begins
pub data ProgramLine : Type 0 where
  Does : Option Action → ProgramLine
  Begins : ProgramLine
  Refuses : ProgramLine
  Ends : ProgramLine

-- a line of the look: nothing to do, a read, a table of what the reads may find, a list of all outcomes, or a question, and how it is to
-- be answered
pub data LookLine : Type 0 where
  Passes : LookLine
  Reads : Action → LookLine
  Tables : LookLine
  Lists : LookLine
  Asks : Wanted → List (Option Answer) → LookLine

-- what a line that is no question is in the program, or why it is not taken
abbrev pub program_input : Input → Result ProgramLine Reason
program_input Skipped = Ok (Does None)
program_input Malformed = Err why.Command
program_input Overlong = Err why.TooLong
program_input (Asked action) = if is_of_program action then Ok (Does (Some action)) else Err why.NotInAProgram

-- what any line is in the program
abbrev pub program_kind : QuestionLine → Input → Result ProgramLine Reason
program_kind Plain input = program_input input
program_kind AsksBegin input = Ok Begins
program_kind AsksRefusal input = Ok Refuses
program_kind AsksLook input = Ok Ends
program_kind AsksList input = Err why.BeforeTheLook
program_kind Tabulates input = Err why.BeforeTheLook
program_kind (Never replies) input = Err why.BeforeTheLook
program_kind (May replies) input = Err why.BeforeTheLook
program_kind Misspelled input = Err why.Spelling
program_kind (NoReply k) input = Err why.BeforeTheLook

abbrev pub program_line : List ℕ → Result ProgramLine Reason
program_line line = program_kind (question_line line) (line_input line)

-- what a line that is no question is in the look, or why it is not taken
abbrev pub look_input : Input → Result LookLine Reason
look_input Skipped = Ok Passes
look_input Malformed = Err why.Command
look_input Overlong = Err why.TooLong
look_input (Asked action) = if is_some (read_of action) then Ok (Reads action) else Err why.NotInALook

-- what any line is in the look
abbrev pub look_kind : QuestionLine → Input → Result LookLine Reason
look_kind Plain input = look_input input
look_kind AsksBegin input = Err why.NotInALook
look_kind AsksRefusal input = Err why.NotInALook
look_kind AsksLook input = Err why.Again
look_kind AsksList input = Ok Lists
look_kind Tabulates input = Ok Tables
look_kind (Never replies) input = Ok (Asks wanted.Never replies)
look_kind (May replies) input = Ok (Asks wanted.May replies)
look_kind Misspelled input = Err why.Spelling
look_kind (NoReply k) input = Err (why.Reply k)

abbrev pub look_line : List ℕ → Result LookLine Reason
look_line line = look_kind (question_line line) (line_input line)
