-- A run of a script over an image: over which lines, with which answers, and what the device is left as.
use Rattle.std.specs.Prelude.{◌≡◌, ◌≤◌, ◌+◌, ℕ, true, List, [], ◌∷◌, ◌++◌, length}
use Rattle.nvm_base.specs.Counts.{raised}
use Rattle.line_device.specs.Panel.{Panel, ArmsNothing, SetsUp, Start, after_disarm, told}
use Rattle.line_device.specs.Panel.Outcome.{went}
use Rattle.line_device.specs.Device.{Device}
use Rattle.reply_text.specs.Answer.{reply_text}
use Rattle.script_text.specs.Action.{Action}
use Rattle.script_text.specs.Script.{Input, inputs_of}
use Rattle.script_text.specs.Script.Input.{Asked}
use Rattle.script_text.specs.Streaming.{IsUnbroken}
use Rattle.machine_host.specs.Machine.{Machine}
use Rattle.machine_host.specs.Run.{Transcript, Run, followed_by}
use Rattle.machine_host.specs.Settling.{Asks, SettlesTo}
use Rattle.machine_host.specs.Telling.{Tells, bumped_by}
use Rattle.machine_host.specs.Stands.{DeviceStands}
use Rattle.machine_host.specs.Costs.{mount_calls, mount_persists}
use Rattle.durable.specs.Place.{Place}
use Rattle.durable.specs.Durable.{KeepsThrough}
use Rattle.durable.specs.Files.{FilesThrough, changes_files}
use Rattle.program_base.specs.Begins.{Begins}
use Rattle.program_base.specs.Ending.{line}
use Rattle.program_base.specs.Opening.{opening}

-- The machine's run over these lines. What one of its commands made durable is there in each later state, unless one between
-- changed it. So are the files that one made, deleted, renamed or resized: as it made them, or as before where it was stopped on the
-- way.
pub record IsRun (first : Machine) (p : Panel) (lines : List (List ℕ)) (said : Transcript) (end : Machine) : Type 0 where
  pub begin : Machine
  pub begins : Begins first p begin
  pub run : Run begin (inputs_of lines) said end
  pub stays : (before : List Input) (action : Action) (after : List Input) (x : Place) → inputs_of lines ≡ before ++ Asked action ∷ after
      → KeepsThrough begin before action after said end x
  pub files : (before : List Input) (action : Action) (after : List Input) → inputs_of lines ≡ before ++ Asked action ∷ after → changes_files action ≡ true
      → FilesThrough begin before action after said end

-- What a device tells from its opening on until it is read out: what was said in the run, and of the settling its starts alone.
pub record Settled (said : Transcript) (starts : List Start) (old new : Panel) : Type 0 where
  pub ran : Panel
  pub tells : Tells (followed_by opening said) old ran
  pub rest : Panel
  pub asks : Asks starts (after_disarm ran) rest
  pub restarts : rest.counts.restarts ≡ bumped_by starts (after_disarm ran).counts.restarts
  pub read_out : SetsUp went rest new

-- It is the run of a device that was opened: the run's end was settled, and the device stands for the state after.
pub record Ran (first : Machine) (lines : List (List ℕ)) (said : Transcript) (last : Machine) (old new : Device) : Type 0 where
  pub end : Machine
  pub run : IsRun first old.panel lines said end
  pub starts : List Start
  pub comes : SettlesTo end.mode end starts last
  pub settled : Settled said starts old.panel new.panel
  pub stands : DeviceStands new last

-- It was brought to rest: it stands for what the state settles to.
pub record ComesToRest (end : Machine) (d : Device) : Type 0 where
  pub starts : List Start
  pub last : Machine
  pub comes : SettlesTo end.mode end starts last
  pub stands : DeviceStands d last

-- the bytes of these lines, each with its newline
abbrev pub bytes_of : List (List ℕ) → List ℕ
bytes_of [] = []
bytes_of (text ∷ texts) = line text ++ bytes_of texts

-- The source gave no more: every whole line that was taken was performed, and every reply was written.
pub record IsAnswered (script : List ℕ) (performed : List (List ℕ)) (said : Transcript) (part : List ℕ) : Type 0 where
  pub rest : List ℕ
  pub taken : bytes_of performed ++ rest ≡ script
  pub unbroken : IsUnbroken rest
  pub all : part ≡ reply_text said.answers

-- What a device tells of a command that had no memory for its answer, or of a settling and reading out that may have been
-- stopped: at most a restart and a mount, and no order.
pub record LeftBehind (disarmed : ℕ → ℕ) (old new : Panel) : Type 0 where
  pub more : List Start
  pub few : length more ≤ 1
  pub starts : new.starts ≡ told old.starts more
  pub restarts : bumped_by more old.counts.restarts ≤ new.counts.restarts
  pub once : new.counts.restarts ≤ old.counts.restarts + 1
  pub armed : ArmsNothing old new
  pub last_order : new.last_order ≡ old.last_order
  pub arms : new.counts.arms ≡ old.counts.arms
  pub offs : new.counts.offs ≡ old.counts.offs
  pub faults : old.counts.faults ≤ new.counts.faults
  pub cuts : old.counts.cuts ≤ new.counts.cuts
  pub calls : new.counts.calls ≤ old.counts.calls + mount_calls
  pub persists : new.counts.persists ≤ old.counts.persists + mount_persists
  pub evicts : new.counts.evicts ≡ old.counts.evicts
  pub disarms : new.counts.disarms ≡ disarmed old.counts.disarms

-- the one and the other
abbrev pub GoesUnanswered : Panel → Panel → Type 0
GoesUnanswered = LeftBehind (λ count. count)

abbrev pub GoesToRest : Panel → Panel → Type 0
GoesToRest = LeftBehind raised

-- The device told first what was said, and what was armed then is as in the machine's state; and then what was left behind.
pub record TellsFirst (disarmed : ℕ → ℕ) (said : Transcript) (end : Machine) (old new : Panel) : Type 0 where
  pub between : Panel
  pub tells : Tells said old between
  pub cut_armed : between.cut_armed ≡ end.cut_armed
  pub fail_armed : between.fail_armed ≡ end.fail_armed
  pub left : LeftBehind disarmed between new
