-- What each form of the words does, and how it fails.
use Rattle.std.specs.Prelude.{◌≡◌, ◌⊎◌, ◌<◌, ◌≤◌, ◌++◌, ℕ, false, List, [], length, codes, decimal, Option, None, IfSome, Result, MatchResult, ⊤}
use Rattle.std.specs.Io.KnownBytes.{Appends, Consumes, IsAtEnd}
use Rattle.nvm_base.specs.Counts.{Rose, raised}
use Rattle.command_line.specs.Words.{Form}
use Rattle.command_line.specs.Words.Form.{of_new, of_run, of_check, of_bench}
use Rattle.host_io.specs.Images.{KeepsHeld}
use Rattle.host_io.specs.declared.images.ImageCounts.{ImageCounts}
use Rattle.image_file.specs.Devices.{medium_of}
use Rattle.image_file.specs.Text.{Snapshot, fresh_snapshot}
use Rattle.image_file.specs.declared.Units.TheVariants.{All}
use Rattle.machine_model.specs.Performing.{perform}
use Rattle.machine_model.specs.Unarmed.{ArmNothing}
use Rattle.machine_host.specs.Machine.{Machine, bad_of}
use Rattle.machine_host.specs.Run.{Transcript, followed_by}
use Rattle.machine_host.specs.Stands.{DeviceStands}
use Rattle.machine_host.specs.Telling.{Tells}
use Rattle.recovery.specs.Findings.{first_finding}
use Rattle.reply_text.specs.Answer.{reply_text}
use Rattle.script_text.specs.Script.{inputs_of, lines_of}
use Rattle.word_tables.specs.Layout.{total_lines}
use Rattle.word_tables.specs.declared.geometry.Geometry.{Geometry}
use Rattle.host_program.specs.Bench.{Benches, BreaksOff, FailsToStart}
use Rattle.program_base.specs.Ending.{ending_text, numbered_line, status}
use Rattle.program_base.specs.Opening.{CountsOpening, FailsToOpen, IsHeld, opened, opening}
use Rattle.host_program.specs.Storing.{Holds, HoldsOn, IsStored}
use Rattle.program_base.specs.Writing.{IsFront, WritesFront, WritesLine}
use Rattle.host_program.specs.Whole.{ComesToRest, IsAnswered, IsRun, Ran, TellsFirst, bytes_of}
use Rattle.program_base.specs.World.{LeavesScript, World}
use Rattle.program_base.specs.declared.ending.Ending.{Ending}
use Rattle.program_base.specs.declared.ending.Ending.TheVariants.{Usage, Image, Layout, Meta, Read, Write, Memory, Script}
use Rattle.program_base.specs.declared.ending.Ending.TheVariants as endings

-- what `new` writes, and what `check` does of the state that it read
abbrev pub created_text : Geometry → List ℕ
created_text geo = numbered_line (codes "ok ") (total_lines geo)

abbrev pub checked_text : Snapshot → List ℕ
checked_text image = codes "ok " ++ decimal (length image.lines) ++ numbered_line (codes " bad ") (bad_of (opened image))

-- an image was replaced, once or not at all; and none was fetched
pub record CountsCreating (old new : ImageCounts) : Type 0 where
  pub fetches : new.fetches ≡ old.fetches
  pub fetch_faults : new.fetch_faults ≡ old.fetch_faults
  pub replaces : (new.replaces ≡ old.replaces) ⊎ (new.replaces ≡ raised old.replaces)
  pub replace_faults : old.replace_faults ≤ new.replace_faults

-- `new` or `newbyte` is done: the fresh image of its unit is held under the name, and its line was written.
pub record Creates (unit : ℕ) (name : List ℕ) (geo : Geometry) (old new : World) : Type 0 where
  pub holds : Holds name (fresh_snapshot unit geo) old.held new.held
  pub wrote : Appends old.written new.written (created_text geo)
  pub replaces : new.images.replaces ≡ raised old.images.replaces
  pub counts : CountsCreating old.images new.images
  pub device : new.device ≡ old.device
  pub script : LeavesScript old new

-- `check` is done: the image is a right one, and its line was written.
pub record Checks (name : List ℕ) (old new : World) : Type 0 where
  pub image : Snapshot
  pub there : IsHeld All name old.held image
  pub right : first_finding (medium_of image.lines) ≡ None
  pub wrote : Appends old.written new.written (checked_text image)
  pub tells : Tells opening old.device.panel new.device.panel
  pub held : KeepsHeld (λ _. ⊤) old.held new.held
  pub counts : CountsOpening old.images new.images
  pub script : LeavesScript old new

-- `run` is done: all of the script was read and performed from the state that was read in the image, the replies were written
-- and nothing else, and all that the device holds then is held under the other name, as an image of the same unit.
pub record Completes (from to : List ℕ) (old new : World) : Type 0 where
  pub image : Snapshot
  pub there : IsHeld All from old.held image
  pub right : first_finding (medium_of image.lines) ≡ None
  pub script : List ℕ
  pub said : Transcript
  pub last : Machine
  pub read : Consumes old.left new.left script
  pub ended : IsAtEnd new.left
  pub short : length script < 1073741824
  pub ran : Ran (opened image) (lines_of script) said last old.device new.device
  -- where nothing is armed, neither before nor by a line, it went as the machine alone performs it, given what each restart left
  pub unarmed : old.device.panel.cut_armed ≡ false → old.device.panel.fail_armed ≡ false → ArmNothing (inputs_of (lines_of script))
      → perform (opened image) (inputs_of (lines_of script)) said.starts ≡ record { said = said; state = ran.end }
  pub wrote : Appends old.written new.written (reply_text said.answers)
  pub stored : IsStored to old.held new.held new.device.medium last
  pub unit : stored.image.unit ≡ image.unit
  pub fetches : new.images.fetches ≡ raised old.images.fetches
  pub replaces : new.images.replaces ≡ raised old.images.replaces

-- what the words ask for is done
abbrev pub Does : Form → World → World → Type 0
Does (of_new unit name geo) old new = Creates unit name geo old new
Does (of_run from to) old new = Completes from to old new
Does (of_check name) old new = Checks name old new
Does (of_bench seed count) old new = Benches seed count old new

-- why an ending came once nothing but writing and storing was left
abbrev pub IsUnwritten : Ending → World → World → Type 0
IsUnwritten Write old new = Rose old.writes new.writes ⊎ Rose old.images.replace_faults new.images.replace_faults
IsUnwritten Memory old new = Unit {0}
IsUnwritten Usage old new = ⊥
IsUnwritten (Image offset) old new = ⊥
IsUnwritten (Layout place) old new = ⊥
IsUnwritten (Meta line) old new = ⊥
IsUnwritten Read old new = ⊥
IsUnwritten Script old new = ⊥
IsUnwritten endings.Device old new = ⊥

-- why one came in a run
abbrev pub IsCaused : Ending → World → World → Type 0
IsCaused Read old new = Rose old.reads new.reads
IsCaused Write old new = Rose old.writes new.writes ⊎ Rose old.images.replace_faults new.images.replace_faults
IsCaused Memory old new = Unit {0}
IsCaused Script old new = IfSome old.left (λ script. 1073741824 ≤ length script)
IsCaused endings.Device old new = Rose old.device.panel.counts.setups new.device.panel.counts.setups
IsCaused Usage old new = ⊥
IsCaused (Image offset) old new = ⊥
IsCaused (Layout place) old new = ⊥
IsCaused (Meta line) old new = ⊥

-- `new` or `newbyte` came to no end: its line was written as far as told, and all of it where an image was replaced.
pub record FailsToCreate (name : List ℕ) (geo : Geometry) (ending : Ending) (old new : World) : Type 0 where
  pub cause : IsUnwritten ending old new
  pub wrote : WritesFront (created_text geo) old.written new.written
  pub replaced : (new.images.replaces ≡ old.images.replaces) ⊎ Appends old.written new.written (created_text geo)
  pub holds : HoldsOn name old.held new.held old.images new.images
  pub counts : CountsCreating old.images new.images
  pub device : new.device ≡ old.device
  pub script : LeavesScript old new

-- `check` came to no end after the image was opened
pub record FailsToTell (name : List ℕ) (ending : Ending) (old new : World) : Type 0 where
  pub image : Snapshot
  pub there : IsHeld All name old.held image
  pub right : first_finding (medium_of image.lines) ≡ None
  pub cause : IsUnwritten ending old new
  pub wrote : WritesFront (checked_text image) old.written new.written
  pub tells : Tells opening old.device.panel new.device.panel
  pub held : KeepsHeld (λ _. ⊤) old.held new.held
  pub counts : CountsOpening old.images new.images
  pub script : LeavesScript old new

-- the script was read to its end and performed, and all replies were written
pub record IsThrough (said : Transcript) (part : List ℕ) (others : List (List ℕ)) (left : Option (List ℕ)) : Type 0 where
  pub none_left : others ≡ []
  pub all : part ≡ reply_text said.answers
  pub ended : IsAtEnd left

-- A run came to no end after the image was opened: what was written is how the text of a run of the device begins, over some
-- first lines of what was read, none of them cut short: the last one may lack its newline only at the source's end. Where it ended
-- by the source, these are all whole lines, and all of their text was written. It was settled or stored only after the whole script.
-- At `error script` 2^30 bytes of script were taken, at `error read` and `error device` fewer. The device stands for the run's last
-- state where the source or a write ended it, or for what that settles to where it is the image that was not written.
pub record Halts (from to : List ℕ) (ending : Ending) (old new : World) : Type 0 where
  pub image : Snapshot
  pub there : IsHeld All from old.held image
  pub right : first_finding (medium_of image.lines) ≡ None
  pub cause : IsCaused ending old new
  pub script : List ℕ
  pub performed : List (List ℕ)
  pub others : List (List ℕ)
  pub said : Transcript
  pub end : Machine
  pub part : List ℕ
  pub read : Consumes old.left new.left script
  pub split : lines_of script ≡ performed ++ others
  pub whole : IsFront (bytes_of performed) script ⊎ IsAtEnd new.left
  pub run : IsRun (opened image) old.device.panel performed said end
  pub front : IsFront part (reply_text said.answers)
  pub answered : (ending ≡ Read) ⊎ (ending ≡ Script) → IsAnswered script performed said part
  pub long : ending ≡ Script → 1073741824 ≤ length script
  pub short : (ending ≡ Read) ⊎ (ending ≡ endings.Device) → length script < 1073741824
  pub stands : (ending ≡ Read) ⊎ (ending ≡ Script) → DeviceStands new.device end
  pub rests : ending ≡ Write → DeviceStands new.device end ⊎ (IsThrough said part others new.left × ComesToRest end new.device)
  pub wrote : Appends old.written new.written part
  pub tells : TellsFirst (λ count. count) (followed_by opening said) end old.device.panel new.device.panel
      ⊎ (TellsFirst raised (followed_by opening said) end old.device.panel new.device.panel × IsThrough said part others new.left)
  pub replaced : (new.images.replaces ≡ old.images.replaces)
      ⊎ ((new.images.replaces ≡ raised old.images.replaces) × IsThrough said part others new.left)
  pub fetches : new.images.fetches ≡ raised old.images.fetches
  pub holds : HoldsOn to old.held new.held old.images new.images

-- what the words ask for came to no end
abbrev pub Fails : Form → Ending → World → World → Type 0
Fails (of_new unit name geo) ending old new = FailsToCreate name geo ending old new
Fails (of_run from to) ending old new = FailsToOpen All from ending old new ⊎ Halts from to ending old new
Fails (of_check name) ending old new = FailsToOpen All name ending old new ⊎ FailsToTell name ending old new
Fails (of_bench seed count) ending old new = FailsToStart ending old new ⊎ BreaksOff seed count (IsUnwritten ending old new) old new

-- one or the other
abbrev pub Outcome : Form → Result (Unit {0}) Ending → World → World → Type 0
Outcome form result old new = MatchResult result (λ _. Does form old new) (λ ending. Fails form ending old new)

-- A call ended early with this status: what it asked for came to no end, and then the status's line was written.
pub record EndsEarly (form : Form) (ended : ℕ) (old new : World) : Type 0 where
  pub ending : Ending
  pub is : ended ≡ status ending
  pub between : World
  pub fails : Fails form ending old between
  pub line : WritesLine (ending_text ending) between.writes new.writes between.written new.written
  pub rest : new ≡ record between { written = new.written; writes = new.writes }

-- The words are in no form: the status says so, or there was no memory to read them. Nothing else was done.
pub record IsNoForm (ended : ℕ) (old new : World) : Type 0 where
  pub ending : Ending
  pub which : (ending ≡ Usage) ⊎ (ending ≡ Memory)
  pub is : ended ≡ status ending
  pub line : WritesLine (ending_text ending) old.writes new.writes old.written new.written
  pub rest : new ≡ record old { written = new.written; writes = new.writes }
