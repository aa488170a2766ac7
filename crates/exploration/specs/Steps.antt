-- What the steps of reading a script may give.
use Rattle.std.specs.Prelude.{◌≡◌, All, ℕ, Bool, true, false, List, [], ◌∷◌, ◌++◌, map, option_map, IsOkAnd, IsSomeAnd, Option, Some, None, Result, Ok, Err}
use Rattle.script_text.specs.declared.command.Command.{Command}
use Rattle.script_text.specs.Action.{action_of}
use Rattle.script_text.specs.Script.{lines_of}
use Rattle.questions.specs.Asked.{answer_asked}
use Rattle.outcomes.specs.Seen.{Seen}
use Rattle.outcomes.specs.Stops.{IsProgram}
use Rattle.asked_reads.specs.declared.question.Question.{Question}
use Rattle.asked_reads.specs.Asking.{IsLook}
use Rattle.exploration.specs.declared.exploration.ScriptFault.{ScriptFault}
use Rattle.exploration.specs.declared.exploration.ScriptFault.TheVariants.{Line, Memory as NoMemory}
use Rattle.exploration.specs.declared.look.Look.{Look as LookHeld}
use Rattle.exploration.specs.declared.look_lines.LookLine.{LookLine as LookLineRead}
use Rattle.exploration.specs.declared.look_lines.LookLine.TheVariants as look_read
use Rattle.exploration.specs.declared.asking.Asking.{Asking}
use Rattle.exploration.specs.declared.parts.Parts.{Parts as PartsHeld}
use Rattle.exploration.specs.declared.program.Program.{Program as ProgramHeld}
use Rattle.exploration.specs.declared.program_lines.ProgramLine.{ProgramLine as ProgramLineRead}
use Rattle.exploration.specs.declared.program_lines.ProgramLine.TheVariants as program_read
use Rattle.exploration.specs.declared.reason.Reason.{Reason}
use Rattle.exploration.specs.declared.reason.Reason.TheVariants.{Kind}
use Rattle.exploration.specs.declared.stop.LineStop.{LineStop}
use Rattle.exploration.specs.declared.stop.LineStop.TheVariants.{Memory, Untaken}
use Rattle.exploration.specs.declared.stop.ReplyStop.{ReplyStop}
use Rattle.exploration.specs.declared.stop.ReplyStop.TheVariants as reply
use Rattle.exploration.specs.Exploration.{Asked, Look}
use Rattle.exploration.specs.Program.{Parts, Untaken as Stopped, first_of, marks_from, program_of, refused_from}
use Rattle.exploration.specs.Lines.{LookLine, ProgramLine}
use Rattle.exploration.specs.Lines.LookLine.{Asks, Lists, Passes, Reads, Tables}
use Rattle.exploration.specs.Lines.ProgramLine.{Begins, Does, Ends, Refuses}
use Rattle.exploration.specs.Reading.{AskOf, IsAsking}
use Rattle.asked_reads.specs.Looking.{read_action}
use Rattle.asked_reads.specs.Program.{IsBounded, inputs_of_lines}

-- the fault of a script that stops at a line of that number
abbrev pub fault_at : ℕ → LineStop → ScriptFault
fault_at n (Untaken why) = Line n why
fault_at n Memory = NoMemory

-- the stop of a line whose reply of that number it is
abbrev pub line_stop : ℕ → ReplyStop → LineStop
line_stop k reply.Kind = Untaken (Kind k)
line_stop k reply.Memory = Memory

-- what lines that were read are
abbrev pub program_line_of : ProgramLineRead → ProgramLine
program_line_of (program_read.Does command) = Does (option_map action_of command)
program_line_of program_read.Begins = Begins
program_line_of program_read.Refuses = Refuses
program_line_of program_read.Ends = Ends

abbrev pub look_line_of : LookLineRead → LookLine
look_line_of look_read.Passes = Passes
look_line_of (look_read.Reads read) = Reads (read_action read)
look_line_of look_read.Table = Tables
look_line_of look_read.List = Lists
look_line_of (look_read.Asks wanted replies) = Asks wanted (map (option_map answer_asked) replies.items)

-- what came of something that is there, or is not taken
abbrev pub Finds : {A T : Type 0} → (T → A) → Result A Reason → Result T LineStop → Type 0
Finds of there (Ok x) = there ≡ Ok (of x)
Finds of there (Err (Untaken why)) = there ≡ Err why
Finds of there (Err Memory) = Unit {0}

-- what came of a reply, where the read may have one of that kind
abbrev pub FindsReply : {A T : Type 0} → (T → A) → Option A → Result T ReplyStop → Type 0
FindsReply of there (Ok x) = there ≡ Some (of x)
FindsReply of there (Err reply.Kind) = there ≡ None
FindsReply of there (Err reply.Memory) = Unit {0}

-- commands of a program, their numbers within bounds
pub record AreCommands (lines : List (Option Command)) : Type 0 where
  pub program : IsProgram (inputs_of_lines lines)
  pub bounds : All IsBounded lines

-- its command is one of a program, its numbers within bounds
abbrev pub IsRightLine : ProgramLineRead → Type 0
IsRightLine (program_read.Does command) = AreCommands (command ∷ [])
IsRightLine program_read.Begins = Unit {0}
IsRightLine program_read.Refuses = Unit {0}
IsRightLine program_read.Ends = Unit {0}

-- what came of replies that ask this of reads
abbrev pub FindsQuestion : Result (List Seen) Reason → Result Question LineStop → Type 0
FindsQuestion asks (Ok q) = IsOkAnd asks (λ look. IsLook look q)
FindsQuestion asks (Err (Untaken why)) = asks ≡ Err why
FindsQuestion asks (Err Memory) = Unit {0}

-- what came of replies that ask this of reads, and how it is to be answered
abbrev pub FindsAsking : Result Asked Reason → Result Asking LineStop → Type 0
FindsAsking asks (Ok asking) = IsOkAnd asks (λ asked. IsAsking asked asking)
FindsAsking asks (Err (Untaken why)) = asks ≡ Err why
FindsAsking asks (Err Memory) = Unit {0}

-- what came of one read more behind those of a look
abbrev pub AddsRead : List Seen → Option Seen → Question → Result (Unit {0}) ReplyStop → Type 0
AddsRead look seen new (Ok u) = IsSomeAnd seen (λ s. IsLook (look ++ s ∷ []) new)
AddsRead look seen new (Err reply.Kind) = seen ≡ None
AddsRead look seen new (Err reply.Memory) = Unit {0}

-- and where its reply has to fit it
abbrev pub AsksRead : List Seen → Result Seen Reason → Question → Result (Unit {0}) LineStop → Type 0
AsksRead look seen new (Ok u) = IsOkAnd seen (λ s. IsLook (look ++ s ∷ []) new)
AsksRead look seen new (Err (Untaken why)) = seen ≡ Err why
AsksRead look seen new (Err Memory) = Unit {0}

-- the look that is held is this one
pub record IsHeld (look : Look) (held : LookHeld) : Type 0 where
  pub reads : map read_action held.reads.items ≡ look.reads
  pub table : held.table ≡ look.table
  pub list : held.list ≡ look.list
  pub questions : AskOf look.questions held.questions.items

-- what came of one line more, behind which the look is this one
abbrev pub TakesLine : Result Look Reason → LookHeld → Result (Unit {0}) LineStop → Type 0
TakesLine next new (Ok u) = IsOkAnd next (λ look. IsHeld look new)
TakesLine next new (Err (Untaken why)) = next ≡ Err why
TakesLine next new (Err Memory) = Unit {0}

-- what came of the text of a look
abbrev pub ReadsLook : Result Look Stopped → Result LookHeld ScriptFault → Type 0
ReadsLook read (Ok held) = IsOkAnd read (λ look. IsHeld look held)
ReadsLook read (Err (Line n why)) = read ≡ Err (record { number = n; why = why })
ReadsLook read (Err NoMemory) = Unit {0}

-- the program that is held has these lines
pub record IsProgramHeld (lines : List ProgramLine) (held : ProgramHeld) : Type 0 where
  pub first : map (option_map action_of) held.first.items ≡ first_of lines
  pub program : map (option_map action_of) held.lines.items ≡ program_of lines
  pub refused : held.refused.items ≡ refused_from false lines
  pub marks : held.marks ≡ marks_from false lines
  pub first_right : AreCommands held.first.items
  pub right : AreCommands held.lines.items

-- it goes on from this line
abbrev pub GoesOn : List ProgramLine → ProgramHeld → ProgramLine → Type 0
GoesOn before new (Does item) = IsProgramHeld (before ++ Does item ∷ []) new
GoesOn before new Begins = IsProgramHeld (before ++ Begins ∷ []) new
GoesOn before new Refuses = IsProgramHeld (before ++ Refuses ∷ []) new
GoesOn before new Ends = ⊥

-- what came of one line more, which is not the end of the program
abbrev pub AddsLine : List ProgramLine → Result ProgramLine Reason → ProgramHeld → Result (Unit {0}) LineStop → Type 0
AddsLine before next new (Ok u) = IsOkAnd next (GoesOn before new)
AddsLine before next new (Err (Untaken why)) = next ≡ Err why
AddsLine before next new (Err Memory) = Unit {0}

-- what came of one line more, and whether it is one of the program
abbrev pub TakesProgramLine : List ProgramLine → Result ProgramLine Reason → ProgramHeld → Result Bool LineStop → Type 0
TakesProgramLine before next new (Ok true) = IsOkAnd next (GoesOn before new)
TakesProgramLine before next new (Ok false) = (next ≡ Ok Ends) × IsProgramHeld before new
TakesProgramLine before next new (Err (Untaken why)) = next ≡ Err why
TakesProgramLine before next new (Err Memory) = Unit {0}

-- the parts that are held are these
pub record ArePartsHeld (parts : Parts) (held : PartsHeld) : Type 0 where
  pub program : IsProgramHeld parts.lines held.program
  pub look : lines_of held.look.now ≡ parts.look

-- what came of a script's text up to the look
abbrev pub ReadsParts : Result Parts Stopped → Result PartsHeld ScriptFault → Type 0
ReadsParts read (Ok held) = IsOkAnd read (λ parts. ArePartsHeld parts held)
ReadsParts read (Err (Line n why)) = read ≡ Err (record { number = n; why = why })
ReadsParts read (Err NoMemory) = Unit {0}
