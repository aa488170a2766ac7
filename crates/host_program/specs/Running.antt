-- Performing a script line by line, as a source gives it.
use Rattle.std.specs.Prelude.{◌≡◌, ◌⊎◌, ◌<◌, ◌≤◌, ℕ, Bool, true, false, List, [], ◌++◌, length, Option, Result, Ok, Err, MatchResult}
use Rattle.std.specs.Io.KnownBytes.{Appends, Consumes, IsAtEnd}
use Rattle.nvm_base.specs.Counts.{Rose}
use Rattle.line_device.specs.Device.{Device}
use Rattle.reply_text.specs.Answer.{reply_text}
use Rattle.script_text.specs.Script.{Input, inputs_of, line_input, lines_of}
use Rattle.script_text.specs.Streaming.{IsFirstLine, ReadsLine, Stream}
use Rattle.script_text.specs.declared.next_line.InputFault.{InputFault}
use Rattle.script_text.specs.declared.next_line.InputFault.TheVariants.{Failed, TooLarge}
use Rattle.script_text.specs.declared.next_line.NextLine.{NextLine}
use Rattle.script_text.specs.declared.next_line.NextLine.TheVariants.{End}
use Rattle.machine_host.specs.Machine.{Machine}
use Rattle.machine_host.specs.Run.{Transcript, Hears, Run}
use Rattle.machine_host.specs.Telling.{Tells}
use Rattle.machine_host.specs.Stands.{DeviceStands, HostState, Stands}
use Rattle.program_base.specs.declared.ending.Ending.{Ending}
use Rattle.program_base.specs.declared.ending.Ending.TheVariants.{Usage, Image, Layout, Meta, Read, Write, Memory, Script}
use Rattle.program_base.specs.declared.ending.Ending.TheVariants as endings
use Rattle.program_base.specs.Writing.{IsFront}
use Rattle.host_program.specs.Whole.{GoesUnanswered, IsAnswered, TellsFirst, bytes_of}

-- One line: it led the machine on, and its answers are appended.
pub record LineGoes (h : Machine) (input : Input) (out_old out_new : List ℕ) (host : HostState) (old new : Device) : Type 0 where
  pub said : Transcript
  pub next : Machine
  pub hears : Hears h input said next
  pub text : out_new ≡ out_old ++ reply_text said.answers
  pub tells : Tells said old.panel new.panel
  pub stands : Stands host new next

-- The first line of these bytes and of what comes led the machine on; behind it these are left.
pub record GoesOn (ended : Bool) (bytes rest : List ℕ) (host after : HostState) (out_old out_new : List ℕ) (old new : Device) : Type 0 where
  pub line : List ℕ
  pub first : IsFirstLine ended bytes line rest
  pub goes : (h : Machine) → Stands host old h → LineGoes h (line_input line) out_old out_new after old new

-- nothing was performed
pub record StaysSo (host after : HostState) (out_old out_new : List ℕ) (old new : Device) : Type 0 where
  pub same_host : after ≡ host
  pub same_out : out_new ≡ out_old
  pub same_device : new ≡ old

-- there was no memory for a line's answer
pub record LacksAnswer (out_old out_new : List ℕ) (old new : Device) : Type 0 where
  pub out : out_new ≡ out_old
  pub left : GoesUnanswered old.panel new.panel

-- what came of it, by how the call ended
abbrev pub Comes : Result NextLine InputFault → List ℕ → Stream → Result Bool Ending → HostState → HostState → List ℕ → List ℕ → Device → Device → Type 0
Comes next bytes now (Ok true) host after out_old out_new old new = GoesOn now.ended bytes now.waiting host after out_old out_new old new
Comes next bytes now (Ok false) host after out_old out_new old new = (next ≡ Ok End) × StaysSo host after out_old out_new old new
Comes next bytes now (Err Read) host after out_old out_new old new = (next ≡ Err Failed) × StaysSo host after out_old out_new old new
Comes next bytes now (Err Script) host after out_old out_new old new = (next ≡ Err TooLarge) × StaysSo host after out_old out_new old new
Comes next bytes now (Err Memory) host after out_old out_new old new = LacksAnswer out_old out_new old new
Comes next bytes now (Err Write) host after out_old out_new old new = ⊥
Comes next bytes now (Err Usage) host after out_old out_new old new = ⊥
Comes next bytes now (Err (Image offset)) host after out_old out_new old new = ⊥
Comes next bytes now (Err (Layout place)) host after out_old out_new old new = ⊥
Comes next bytes now (Err (Meta line)) host after out_old out_new old new = ⊥
Comes next bytes now (Err endings.Device) host after out_old out_new old new = ⊥

-- The next of a script was read, and performed where it is a line.
pub record AnswersNext (reader_old reader_new : Stream) (left_old left_new : Option (List ℕ)) (result : Result Bool Ending) (host after : HostState) (out_old out_new : List ℕ)
    (old new : Device) : Type 0 where
  pub next : Result NextLine InputFault
  pub reads : ReadsLine reader_old reader_new left_old left_new next
  pub comes : Comes next (reader_old.waiting ++ reads.taken) reader_new result host after out_old out_new old new

-- replies that wait are written from the front
pub record Flushes (out_old out_new : List ℕ) (written_old written_new : Option (List ℕ)) : Type 0 where
  pub part : List ℕ
  pub wrote : Appends written_old written_new part
  pub kept : part ++ out_new ≡ out_old

-- a run of which nothing is left to read, to do or to write
pub record IsFinished (said : Transcript) (end : Machine) (part script : List ℕ) (others : List (List ℕ)) (host : HostState) (left : Option (List ℕ)) (old new : Device) : Type 0 where
  pub all : part ≡ reply_text said.answers
  pub none_left : others ≡ []
  pub ended : IsAtEnd left
  pub short : length script < 1073741824
  pub tells : Tells said old.panel new.panel
  pub stands : Stands host new end

-- A run that ended early. Where that is by the source, all whole lines were performed, and all their replies written; by it or by a
-- write, the device stands for the run's last state.
pub record IsStopped (ending : Ending) (said : Transcript) (end : Machine) (part script : List ℕ) (lines : List (List ℕ)) (old new : Device) : Type 0 where
  pub tells : TellsFirst (λ count. count) said end old.panel new.panel
  pub answered : (ending ≡ Read) ⊎ (ending ≡ Script) → IsAnswered script lines said part
  pub long : ending ≡ Script → 1073741824 ≤ length script
  pub short : ending ≡ Read → length script < 1073741824
  pub stands : (ending ≡ Read) ⊎ (ending ≡ Script) ⊎ (ending ≡ Write) → DeviceStands new end

-- What was said over some first lines of what was read, from this state on; over all of them at Ok. None of them was cut short: the
-- last one may lack its newline only at the source's end.
pub record Says (first : Machine) (result : Result (Unit {0}) Ending) (host : HostState) (left_old left_new written_old written_new : Option (List ℕ)) (old new : Device) : Type 0 where
  pub script : List ℕ
  pub lines : List (List ℕ)
  pub others : List (List ℕ)
  pub said : Transcript
  pub end : Machine
  pub part : List ℕ
  pub read : Consumes left_old left_new script
  pub split : lines_of script ≡ lines ++ others
  pub whole : IsFront (bytes_of lines) script ⊎ IsAtEnd left_new
  pub run : Run first (inputs_of lines) said end
  pub front : IsFront part (reply_text said.answers)
  pub wrote : Appends written_old written_new part
  pub outcome : MatchResult result (λ _. IsFinished said end part script others host left_new old new) (λ ending. IsStopped ending said end part script lines old new)

-- A script was performed up to some line: from each state that host and device stood for, it is a run.
pub record Performs (host after : HostState) (result : Result (Unit {0}) Ending) (left_old left_new written_old written_new : Option (List ℕ)) (old new : Device) : Type 0 where
  pub says : (first : Machine) → Stands host old first → Says first result after left_old left_new written_old written_new old new

-- why a script was not performed to its end
abbrev pub IsBroken : Ending → ℕ → ℕ → ℕ → ℕ → Type 0
IsBroken Read reads_old reads_new writes_old writes_new = Rose reads_old reads_new
IsBroken Write reads_old reads_new writes_old writes_new = Rose writes_old writes_new
IsBroken Memory reads_old reads_new writes_old writes_new = Unit {0}
IsBroken Script reads_old reads_new writes_old writes_new = Unit {0}
IsBroken Usage reads_old reads_new writes_old writes_new = ⊥
IsBroken (Image offset) reads_old reads_new writes_old writes_new = ⊥
IsBroken (Layout place) reads_old reads_new writes_old writes_new = ⊥
IsBroken (Meta line) reads_old reads_new writes_old writes_new = ⊥
IsBroken endings.Device reads_old reads_new writes_old writes_new = ⊥
