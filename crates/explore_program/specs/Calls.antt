-- What a call does, and how it ends early.
use Rattle.std.specs.Prelude.{◌≡◌, ◌⊎◌, ◌<◌, ◌≤◌, ◌++◌, ◌==◌, ◌||◌, not, ℕ, Bool, List, [], ◌∷◌, length, map, Option, Some, None, IfSome, Result, Ok, Err, MatchResult, if◌then◌else◌, ⊤, All}
use Rattle.std.specs.List.{AllByRecursion}
use Rattle.std.specs.Io.KnownBytes.{Appends, Consumes, IsAtEnd}
use Rattle.nvm_base.specs.Counts.{Rose}
use Rattle.nvm_base.specs.Stock.{Stock}
use Rattle.host_io.specs.Images.{KeepsHeld}
use Rattle.image_file.specs.Devices.{medium_of}
use Rattle.image_file.specs.Text.{IsOfBytes, IsSnapshot, Snapshot}
use Rattle.image_file.specs.declared.Units.TheVariants.{Words}
use Rattle.line_device.specs.Panel.{Panel}
use Rattle.outcome_lists.specs.MachineModel.Machine.{Machine}
use Rattle.recovery.specs.Findings.{first_finding}
use Rattle.word_tables.specs.declared.geometry.Geometry.{Geometry}
use Rattle.script_text.specs.Action.{Action}
use Rattle.script_text.specs.declared.command.Command.{Command}
use Rattle.script_text.specs.Script.{Input}
use Rattle.outcome_lists.specs.OutcomeTest.Finds.{Finds}
use Rattle.outcome_lists.specs.OutcomeTest.Seen.{Seen}
use Rattle.outcome_lists.specs.OutcomeTest.Stops.{IsProgram}
use Rattle.outcome_lists.specs.AskedReads.Program.{IsBounded, asks_for, inputs_of_lines}
use Rattle.outcome_lists.specs.AskedReads.declared.read.Read.{Read}
use Rattle.exploration.specs.Exploration.{Asked, Exploration, script_of}
use Rattle.exploration.specs.Exploration.Script.{StopsAt, Taken}
use Rattle.exploration.specs.Reads.{read_of}
use Rattle.outcome_lists.specs.CutPlaces.Places.{Stop, found_stop}
use Rattle.outcome_lists.specs.Explorer.Finding.{IsFound}
use Rattle.outcome_lists.specs.Explorer.Tabulating.{LooksWithin, looked}
use Rattle.outcome_lists.specs.Explorer.declared.found.Found.{Found}
use Rattle.outcome_lists.specs.Witnesses.Telling.{told}
use Rattle.program_base.specs.Opening.{CountsOpening, DeviceFailed, FailsToOpen, IsHeld, opened}
use Rattle.program_base.specs.World.{World}
use Rattle.program_base.specs.Writing.{WritesFront, WritesLine}
use Rattle.program_base.specs.declared.ending.Ending.{Ending}
use Rattle.program_base.specs.declared.ending.Ending.TheVariants as endings
use Rattle.explore_program.specs.Lists.{ListsRuns}
use Rattle.explore_program.specs.Showing.{begun_at, refusals, shown}
use Rattle.explore_program.specs.Stops.{stop_status, stop_text}
use Rattle.explore_program.specs.Tables.{TellsRuns}
use Rattle.explore_program.specs.Telling.{answer_line, is_any_missed}
use Rattle.explore_program.specs.declared.stop.Stop.{Stop as Stopped}
use Rattle.explore_program.specs.declared.stop.Stop.TheVariants as stops

-- lines of a program, their numbers within bounds
pub record AreCommands (lines : List (Option Command)) : Type 0 where
  pub program : IsProgram (inputs_of_lines lines)
  pub bounds : All IsBounded lines

-- the reads that these commands are
abbrev pub and_read : Option Read → List Read → List Read
and_read None reads = reads
and_read (Some read) reads = read ∷ reads

abbrev pub reads_of : List Action → List Read
reads_of [] = []
reads_of (action ∷ actions) = and_read (read_of action) (reads_of actions)

-- the state from which cuts are asked about
abbrev pub begun : Machine → Exploration → Machine
begun h e = begun_at h (map asks_for e.first)

-- the commands that are refused, or done, otherwise than the script says
abbrev pub refused_text : Machine → Exploration → List ℕ
refused_text h e = refusals h (map asks_for e.first) (map asks_for e.program) e.refused

-- and the table and the list that are asked for, if they are
abbrev pub asked_first : Machine → Exploration → List ℕ
asked_first h e = refused_text h e ++ shown e.table e.list (begun h e) (map asks_for e.program) (reads_of e.reads)

-- of a look the first place of a cut after which it may be as asked
abbrev pub found : Machine → Exploration → List Seen → Option Stop
found h e look = found_stop (begun h e) (map asks_for e.program) look

-- what the look's reads look at
abbrev pub looked_at : Machine → Exploration → List Seen
looked_at h e = looked h.geometry (reads_of e.reads)

-- 1 where a command is refused, or done, otherwise than the script says, or a question is answered otherwise than it is to be, and else 0
abbrev pub ended_by : Machine → Exploration → ℕ
ended_by h e = if not (length (refused_text h e) == 0) || is_any_missed (found h e) e.questions then 1 else 0

-- All these questions were answered with this text, a line each: where that tells that the look may be found, with what may be kept there
-- of all that is looked at.
abbrev pub AreAnswered : List Seen → (List Seen → Option Stop) → List Asked → List ℕ → Type 0
AreAnswered all tell [] text = text ≡ []
AreAnswered all tell (asked ∷ others) text =
    (found : Option Found) × (rest : List ℕ) × IsFound all asked.look (tell asked.look) found × (text ≡ answer_line all found ++ rest) × AreAnswered all tell others rest

-- they ask of these reads alone
abbrev pub AllAskOf : Geometry → List Read → List Asked → Type 0
AllAskOf geo reads [] = Unit {0}
AllAskOf geo reads (asked ∷ others) = LooksWithin (looked geo reads) asked.look × AllAskOf geo reads others

-- the first ones of them were
pub record FirstAnswered (all : List Seen) (tell : List Seen → Option Stop) (asked : List Asked) (text : List ℕ) : Type 0 where
  pub first : List Asked
  pub later : List Asked
  pub joined : first ++ later ≡ asked
  pub answered : AreAnswered all tell first text

-- an image that keeps words whole, with which nothing is wrong
pub record AreMountable (image : Snapshot) : Type 0 where
  pub snapshot : IsSnapshot image
  pub unit : image.unit ≡ 8
  pub bytes : AllByRecursion IsOfBytes image.lines
  pub right : first_finding (medium_of image.lines) ≡ None

-- a script has fewer bytes than this
abbrev pub most : ℕ
most = 1073741824

-- why the source was not read to its end
abbrev pub IsUnread : Ending → Option (List ℕ) → ℕ → ℕ → Type 0
IsUnread endings.Read left count_old count_new = Rose count_old count_new
IsUnread endings.Script left count_old count_new = IfSome left (λ script. most ≤ length script)
IsUnread endings.Memory left count_old count_new = Unit {0}
IsUnread endings.Usage left count_old count_new = ⊥
IsUnread (endings.Image offset) left count_old count_new = ⊥
IsUnread (endings.Layout place) left count_old count_new = ⊥
IsUnread (endings.Meta line) left count_old count_new = ⊥
IsUnread endings.Write left count_old count_new = ⊥
IsUnread endings.Device left count_old count_new = ⊥

-- All of it was read, or some of it, and then came that.
abbrev pub ReadsAll : Result (Stock ℕ) Ending → Option (List ℕ) → Option (List ℕ) → ℕ → ℕ → Type 0
ReadsAll (Ok text) left_old left_new count_old count_new = Consumes left_old left_new text.items × IsAtEnd left_new × (length text.items < most)
ReadsAll (Err ending) left_old left_new count_old count_new =
    (taken : List ℕ) × Consumes left_old left_new taken × IsUnread ending left_old count_old count_new

-- why some questions were not answered, once they were read
abbrev pub IsUnanswered : Stopped → ℕ → ℕ → Panel → Panel → Type 0
IsUnanswered (stops.Early endings.Write) count_old count_new old new = Rose count_old count_new
IsUnanswered (stops.Early endings.Memory) count_old count_new old new = Unit {0}
IsUnanswered (stops.Early endings.Device) count_old count_new old new = DeviceFailed old new
IsUnanswered (stops.Early endings.Read) count_old count_new old new = ⊥
IsUnanswered (stops.Early endings.Script) count_old count_new old new = ⊥
IsUnanswered (stops.Early endings.Usage) count_old count_new old new = ⊥
IsUnanswered (stops.Early (endings.Image offset)) count_old count_new old new = ⊥
IsUnanswered (stops.Early (endings.Layout place)) count_old count_new old new = ⊥
IsUnanswered (stops.Early (endings.Meta line)) count_old count_new old new = ⊥
IsUnanswered (stops.Script n why) count_old count_new old new = ⊥
IsUnanswered stops.Usage count_old count_new old new = ⊥

-- That was written, or it was in part, and then came that.
abbrev pub TellsShown : {A : Type 0} → List ℕ → Result A Stopped → Option (List ℕ) → Option (List ℕ) → ℕ → ℕ → Panel → Panel → Type 0
TellsShown text result old new count_old count_new device_old device_new = MatchResult result
    (λ _. Appends old new text)
    (λ stop. IsUnanswered stop count_old count_new device_old device_new × WritesFront text old new)

-- Behind a text all questions were answered, each as this tells of its look; or all of that was written up to some place, with answers of
-- the first questions, and then came that.
abbrev pub AnswersAll : List Seen → List ℕ → (List Seen → Option Stop) → List Asked → Result Bool Stopped → Option (List ℕ) → Option (List ℕ) → ℕ → ℕ → Panel → Panel → Type 0
AnswersAll all front tell asked result old new count_old count_new device_old device_new = MatchResult result
    (λ missed. (missed ≡ is_any_missed tell asked) × (text : List ℕ) × AreAnswered all tell asked text × Appends old new (front ++ text))
    (λ stop. IsUnanswered stop count_old count_new device_old device_new × (text : List ℕ) × FirstAnswered all tell asked text × WritesFront (front ++ text) old new)

-- Each answer is a theorem: where it is never, no run of the machine from that state finds what was asked, and else some run does, which
-- keeps then what is told. A table lists at some place what runs find by a read of it alone, and a list what they find together.
pub record AreTheorems (h : Machine) (program : List Input) : Type 0 where
  pub never : (look : List Seen) → found_stop h program look ≡ None → Finds h program look → ⊥
  pub may : (all look : List Seen) (found : Found) → IsFound all look (found_stop h program look) (Some found) → Finds h program (look ++ told found.kept)
  pub table : TellsRuns h program
  pub list : ListsRuns h program

-- The script was read to its end, and is taken on a device of these sizes.
pub record IsTaken (geo : Geometry) (script : List ℕ) (e : Exploration) (old new : World) : Type 0 where
  pub read : Consumes old.left new.left script
  pub ended : IsAtEnd new.left
  pub short : length script < most
  pub is : script_of geo script ≡ Taken e

-- What is held is as it was, and one image was fetched.
pub record LeavesImages (old new : World) : Type 0 where
  pub held : KeepsHeld (λ _. ⊤) old.held new.held
  pub counts : CountsOpening old.images new.images

-- What comes first was written, and all questions of the script were answered, from the state that is read in the image.
pub record Answers (name : List ℕ) (ended : ℕ) (old new : World) : Type 0 where
  pub image : Snapshot
  pub there : IsHeld Words name old.held image
  pub right : first_finding (medium_of image.lines) ≡ None
  pub script : List ℕ
  pub exploration : Exploration
  pub taken : IsTaken (opened image).geometry script exploration old new
  pub status : ended ≡ ended_by (opened image) exploration
  pub text : List ℕ
  pub answered : AreAnswered (looked_at (opened image) exploration) (found (opened image) exploration) exploration.questions text
  pub wrote : Appends old.written new.written (asked_first (opened image) exploration ++ text)
  pub theorems : AreTheorems (begun (opened image) exploration) (map asks_for exploration.program)
  pub images : LeavesImages old new

-- why not all of them were, once the image was mounted
abbrev pub IsCaused : Geometry → Stopped → List ℕ → World → World → Type 0
IsCaused geo (stops.Script n why) script old new = IsAtEnd new.left × (script_of geo script ≡ StopsAt n why)
IsCaused geo (stops.Early endings.Read) script old new = Rose old.reads new.reads
IsCaused geo (stops.Early endings.Script) script old new = IfSome old.left (λ left. most ≤ length left)
IsCaused geo (stops.Early endings.Write) script old new = Rose old.writes new.writes
IsCaused geo (stops.Early endings.Memory) script old new = Unit {0}
IsCaused geo (stops.Early endings.Device) script old new = DeviceFailed old.device.panel new.device.panel
IsCaused geo (stops.Early endings.Usage) script old new = ⊥
IsCaused geo (stops.Early (endings.Image offset)) script old new = ⊥
IsCaused geo (stops.Early (endings.Layout place)) script old new = ⊥
IsCaused geo (stops.Early (endings.Meta line)) script old new = ⊥
IsCaused geo stops.Usage script old new = ⊥

-- The image was mounted, but not all questions were answered: of the answers that were due the first ones were written, and nothing
-- where the script was not read to its end, or not taken.
pub record Halts (name : List ℕ) (stop : Stopped) (old new : World) : Type 0 where
  pub image : Snapshot
  pub there : IsHeld Words name old.held image
  pub right : first_finding (medium_of image.lines) ≡ None
  pub script : List ℕ
  pub read : Consumes old.left new.left script
  pub cause : IsCaused (opened image).geometry stop script old new
  pub wrote : (new.written ≡ old.written)
      ⊎ ((e : Exploration) × IsTaken (opened image).geometry script e old new × (text : List ℕ)
      × FirstAnswered (looked_at (opened image) e) (found (opened image) e) e.questions text × WritesFront (asked_first (opened image) e ++ text) old.written new.written)
  pub images : LeavesImages old new

-- the image was not opened, or not all was answered
abbrev pub Fails : List ℕ → Stopped → World → World → Type 0
Fails name stop old new = ((ending : Ending) × (stop ≡ stops.Early ending) × FailsToOpen Words name ending old new) ⊎ Halts name stop old new

-- what came of it, or what came in its way
abbrev pub Outcome : List ℕ → Result Bool Stopped → World → World → Type 0
Outcome name result old new = MatchResult result (λ may. Answers name (if may then 1 else 0) old new) (λ stop. Fails name stop old new)

-- A call ended early with this status: it came to no answer or not to all, and then the status's line was written.
pub record EndsEarly (name : List ℕ) (ended : ℕ) (old new : World) : Type 0 where
  pub stop : Stopped
  pub is : ended ≡ stop_status stop
  pub between : World
  pub fails : Fails name stop old between
  pub line : WritesLine (stop_text stop) between.writes new.writes between.written new.written
  pub rest : new ≡ record between { written = new.written; writes = new.writes }

-- The words don't name one image: the status says so, and nothing else was done.
pub record IsNoCall (ended : ℕ) (old new : World) : Type 0 where
  pub is : ended ≡ stop_status stops.Usage
  pub line : WritesLine (stop_text stops.Usage) old.writes new.writes old.written new.written
  pub rest : new ≡ record old { written = new.written; writes = new.writes }
