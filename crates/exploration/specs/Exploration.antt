-- A script that is to be explored: its program, and its questions.
use Rattle.std.specs.Prelude.{ℕ, Bool, true, false, not, ◌||◌, ◌&&◌, ◌==◌, ◌+◌, List, [], ◌∷◌, ◌++◌, length, is_some, if◌then◌else◌, Option, Some, None, Result, Ok, Err}
use Rattle.std.specs.List.{list_any}
use Rattle.script_text.specs.Action.{Action}
use Rattle.script_text.specs.Script.{lines_of}
use Rattle.reply_text.specs.Answer.{Answer}
use Rattle.outcomes.specs.Seen.{Seen}
use Rattle.word_tables.specs.declared.geometry.Geometry.{Geometry}
use Rattle.exploration.specs.declared.asking.Wanted.{Wanted}
use Rattle.exploration.specs.declared.asking.Wanted.TheVariants.{May, Never}
use Rattle.exploration.specs.declared.reason.Reason.{Reason}
use Rattle.exploration.specs.declared.reason.Reason.TheVariants.{NothingAsked, ReadAfterAQuestion, Replies}
use Rattle.exploration.specs.Fitting.{fits}
use Rattle.exploration.specs.Lines.{LookLine, ProgramLine, look_line}
use Rattle.exploration.specs.Lines.LookLine.{Asks, Lists, Passes, Reads, Tables}
use Rattle.exploration.specs.Program.{Parts, Untaken, first_of, go_on, parts_from, program_of, refused_from}

-- a question: how it is to be answered, and the reads that it asks
pub record Asked : Type 0 where
  pub wanted : Wanted
  pub look : List Seen

-- the commands up to `# begin`, one item a line, and none where there is no such line; one item for each line of the program, None where it
-- has no command, and up to `# begin`; of each line, whether its command is to be refused; the reads of the look, whether a table of what
-- they may find and a list of all outcomes are asked for, and the questions
pub record Exploration : Type 0 where
  pub first : List (Option Action)
  pub program : List (Option Action)
  pub refused : List Bool
  pub reads : List Action
  pub table : Bool
  pub list : Bool
  pub questions : List Asked

-- a script: its exploration, or the number of its first line that is not taken, and why
pub data Script : Type 0 where
  Taken : Exploration → Script
  StopsAt : ℕ → Reason → Script

-- one read more before others, where all may be answered so, and else what is first wrong
abbrev pub with_seen : Result Seen Reason → Result (List Seen) Reason → Result (List Seen) Reason
with_seen (Err why) more = Err why
with_seen (Ok seen) (Err why) = Err why
with_seen (Ok seen) (Ok more) = Ok (seen ∷ more)

-- the reads that are asked, where each of them that has a reply may be answered so: the first reply has that number
abbrev pub asked_from : Geometry → ℕ → List Action → List (Option Answer) → Result (List Seen) Reason
asked_from geo k [] replies = Ok []
asked_from geo k (read ∷ reads) [] = Ok []
asked_from geo k (read ∷ reads) (None ∷ replies) = asked_from geo (k + 1) reads replies
asked_from geo k (read ∷ reads) (Some answer ∷ replies) = with_seen (fits geo k read answer) (asked_from geo (k + 1) reads replies)

-- each read has one reply
abbrev pub question_of : Geometry → List Action → List (Option Answer) → Result (List Seen) Reason
question_of geo reads replies = if length replies == length reads then asked_from geo 1 reads replies else Err (Replies (length replies) (length reads))

-- nothing is asked that has to be found: any replies will do
abbrev pub asks_nothing : Wanted → List (Option Answer) → Bool
asks_nothing Never replies = false
asks_nothing May replies = not (list_any is_some replies)

-- the question of these replies, or why it is not taken
abbrev pub asked_as : Wanted → List (Option Answer) → Result (List Seen) Reason → Result Asked Reason
asked_as wanted replies (Err why) = Err why
asked_as wanted replies (Ok look) = if asks_nothing wanted replies then Err NothingAsked else Ok (record { wanted = wanted; look = look })

abbrev pub asking_of : Geometry → List Action → Wanted → List (Option Answer) → Result Asked Reason
asking_of geo reads wanted replies = asked_as wanted replies (question_of geo reads replies)

-- some lines of a look: their reads, whether they ask for a table and for a list, and their questions
pub record Look : Type 0 where
  pub reads : List Action
  pub table : Bool
  pub list : Bool
  pub questions : List Asked

abbrev pub look_start : Look
look_start = record { reads = []; table = false; list = false; questions = [] }

-- whether something is asked of the reads
abbrev pub is_asked : Look → Bool
is_asked look = look.table || look.list || not (length look.questions == 0)

-- whether there are any
abbrev pub asks_of_reads : Look → Bool
asks_of_reads look = not (length look.reads == 0) && is_asked look

-- one read more, but not after what is asked
abbrev pub with_read : Look → Action → Result Look Reason
with_read look read = if is_asked look then Err ReadAfterAQuestion else Ok (record look { reads = look.reads ++ read ∷ [] })

-- one question more
abbrev pub with_question : Look → Result Asked Reason → Result Look Reason
with_question look (Err why) = Err why
with_question look (Ok question) = Ok (record look { questions = look.questions ++ question ∷ [] })

-- one line more, or why it is not taken there
abbrev pub with_line : Geometry → Look → LookLine → Result Look Reason
with_line geo look Passes = Ok look
with_line geo look (Reads read) = with_read look read
with_line geo look Tables = Ok (record look { table = true })
with_line geo look Lists = Ok (record look { list = true })
with_line geo look (Asks wanted replies) = with_question look (asking_of geo look.reads wanted replies)

abbrev pub with_taken : Geometry → Look → Result LookLine Reason → Result Look Reason
with_taken geo look (Err why) = Err why
with_taken geo look (Ok line) = with_line geo look line

-- the look at the end of a script, after which a line would have that number: something has to be asked of some read
abbrev pub look_end : ℕ → Look → Result Look Untaken
look_end n look = if asks_of_reads look then Ok look else Err (record { number = n; why = NothingAsked })

-- after some lines of a look: those of number n and so on
abbrev pub look_from : Geometry → ℕ → Look → List (List ℕ) → Result Look Untaken
look_from geo n look [] = look_end n look
look_from geo n look (line ∷ lines) = go_on n (λ next. look_from geo (n + 1) next lines) (with_taken geo look (look_line line))

-- the script of that program and look
abbrev pub script_with : List ProgramLine → Result Look Untaken → Script
script_with lines (Ok look) = Taken (record {
  first = first_of lines;
  program = program_of lines;
  refused = refused_from false lines;
  reads = look.reads;
  table = look.table;
  list = look.list;
  questions = look.questions;
})
script_with lines (Err stop) = StopsAt stop.number stop.why

-- the look begins after its line, which is none of the program
abbrev pub script_of_parts : Geometry → Result Parts Untaken → Script
script_of_parts geo (Ok parts) = script_with parts.lines (look_from geo (length parts.lines + 2) look_start parts.look)
script_of_parts geo (Err stop) = StopsAt stop.number stop.why

-- what a script's text is, on a device of these sizes
abbrev pub script_of : Geometry → List ℕ → Script
script_of geo text = script_of_parts geo (parts_from [] (lines_of text))
