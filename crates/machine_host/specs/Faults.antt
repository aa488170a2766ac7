-- How faults of the layers below are answered, and what want of memory leaves.
use Rattle.std.specs.Prelude.{◌≡◌, ◌≤◌, ◌⊎◌, ◌+◌, ℕ, List, Result, Ok, Err}
use Rattle.line_device.specs.Medium.{Medium, WritesBack}
use Rattle.line_device.specs.Panel.{Start}
use Rattle.line_device.specs.Device.{Device, Restarted, Waited}
use Rattle.line_device.specs.declared.line.Choice.{Choice}
use Rattle.machine_model.specs.declared.mode.Mode.{Mode}
use Rattle.machine_model.specs.declared.mode.Mode.TheVariants as modes
use Rattle.script_text.specs.Action.{Action}
use Rattle.reply_text.specs.Answer.{Answer}
use Rattle.flush_engine.specs.declared.fault.FlushFault.{FlushFault}
use Rattle.flush_engine.specs.declared.fault.FlushFault.TheVariants as flush
use Rattle.flush_engine.specs.Refusals.{FlushRefusal}
use Rattle.flush_engine.specs.Refusals.FlushRefusal.{Range, Length, Limit, Poison, Verify}
use Rattle.reply_text.specs.declared.reply.Why.TheVariants as because
use Rattle.reply_text.specs.Answer.Answer.{DeviceFailed, Done, DoneBad, PoisonFile, PowerLost, Refused, Stopped, VerifyFile}
use Rattle.nvm_model.specs.Blocks.{bad_block_lines}
use Rattle.nvm_model.specs.Files.{bad_file_lines}
use Rattle.nvm_model.specs.Page.{Page, bad_lines}
use Rattle.nvm_base.specs.Stock.{Stock}
use Rattle.nvm_model.specs.Storage.{Event, File}
use Rattle.block_device.specs.Object.{BlocksState, blocks_of}
use Rattle.file_journal.specs.Object.{JournalState}
use Rattle.file_journal.specs.Standing.{FilesStand}
use Rattle.file_journal.specs.declared.fault.JournalFault.{JournalFault}
use Rattle.file_journal.specs.Refusals.{journal_says}
use Rattle.file_pages.specs.declared.fault.PageFault.{PageFault}
use Rattle.file_pages.specs.Refusals.{page_says}
use Rattle.pm_volume.specs.Object.{VolumeState, VolumeHolds}
use Rattle.block_device.specs.declared.fault.BlockFault.{BlockFault}
use Rattle.block_device.specs.Refusals.{block_says}
use Rattle.line_words.specs.Told.{Told}
use Rattle.line_words.specs.Told.Told.{Refuses, Stops, Starves}
use Rattle.recovery.specs.declared.fault.MountFault.{MountFault}
use Rattle.recovery.specs.declared.fault.MountFault.TheVariants as mount
use Rattle.machine_model.specs.Machine.{Machine}
use Rattle.machine_model.specs.OnBlocks.{refusal_answer}
use Rattle.machine_model.specs.OnVolume.{volume_answer}
use Rattle.machine_model.specs.OnFiles.{journal_answer}
use Rattle.machine_model.specs.OnPages.{page_answer}
use Rattle.machine_model.specs.OnMappings.{map_answer}
use Rattle.file_actions.specs.Refusals.{action_says}
use Rattle.file_actions.specs.declared.fault.ActionFault.{ActionFault}
use Rattle.machine_model.specs.OnFileActions.{action_answer}
use Rattle.mappings.specs.Refusals.{map_says}
use Rattle.mappings.specs.declared.fault.MapFault.{MapFault}
use Rattle.pm_volume.specs.declared.fault.VolumeFault.{VolumeFault}
use Rattle.pm_volume.specs.Refusals.{volume_says}
use Rattle.machine_model.specs.Commands.{meaning}
use Rattle.machine_model.specs.Meaning.{Starved}
use Rattle.machine_model.specs.Meaning.Starved.{Untouched, WrittenBack, Unmounted, Unrecovered}
use Rattle.machine_model.specs.Interrupted.{interrupted_answer, interrupted_mode}
use Rattle.machine_model.specs.Restarting.{RestartMayLeave, restarted}
use Rattle.machine_model.specs.Costs.{Opens}
use Rattle.machine_host.specs.Stands.{HostState, Stands}

-- host and device stand for what a restart of this state left, with nothing mounted
pub record StandsUnmounted (choice : Choice) (start : Start) (h : Machine) (host : HostState) (d : Device) : Type 0 where
  pub keeps : RestartMayLeave choice start.image h
  pub stands : Stands host d (record (restarted h start.image) { mode = modes.Unsettled })

-- A restart that was done, after which there was no memory to mount the blocks.
pub record LeftUnmounted (choice : Choice) (host after : HostState) (old new : Device) : Type 0 where
  pub between : Device
  pub start : Start
  pub restarted : Restarted choice old between start
  pub opens : Opens between.panel new.panel
  pub unsettled : after ≡ record host { mode = modes.Unsettled }
  pub stands : (h : Machine) → Stands host old h → StandsUnmounted choice start h after new

-- A recovery that had no memory to mount the blocks: host and device stand for what they did.
pub record LeftUnrecovered (host after : HostState) (old new : Device) : Type 0 where
  pub same : after ≡ host
  pub opens : Opens old.panel new.panel
  pub stands : (h : Machine) → Stands host old h → Stands host new h

-- The host is as it was, but for more room for events.
pub record IsRoomier (host after : HostState) : Type 0 where
  pub events : Stock Event
  pub same : after ≡ record host { files = record host.files { events = events } }
  pub items : events.items ≡ host.files.events.items
  pub spare : host.files.events.spare ≤ events.spare

-- What a command that ran out of memory leaves of host and device, by its row.
abbrev pub LeavesStarved : Starved → HostState → HostState → Device → Device → Type 0
LeavesStarved Untouched host after old new = (after ≡ host) × (new ≡ old)
LeavesStarved WrittenBack host after old new = IsRoomier host after × WritesBack old.medium new.medium × (new.panel ≡ old.panel)
LeavesStarved (Unmounted choice) host after old new = (after ≡ host) × ((new ≡ old) ⊎ Waited old new) ⊎ LeftUnmounted choice host after old new
LeavesStarved Unrecovered host after old new = LeftUnrecovered host after old new

abbrev pub Leaves : Action → HostState → HostState → Device → Device → Type 0
Leaves action = LeavesStarved (meaning action).starved

-- the mode after a call whose fault told this, and what it is answered; of all calls only a mapping wants memory, and is not answered then
abbrev pub told_mode : {R : Type 0} → Mode → Told R → Mode
told_mode mode (Refuses why) = mode
told_mode mode (Stops by) = interrupted_mode by
told_mode mode Starves = mode

abbrev pub told_answer : {R : Type 0} → (R → Answer) → Told R → Answer
told_answer answer (Refuses why) = answer why
told_answer answer (Stops by) = interrupted_answer by
told_answer answer Starves = DeviceFailed

-- the same of a fault of the blocks, of the volume, and of the journal of files
abbrev pub fault_mode : Mode → BlockFault → Mode
fault_mode mode fault = told_mode mode (block_says fault)

abbrev pub fault_answer : BlockFault → Answer
fault_answer fault = told_answer refusal_answer (block_says fault)

abbrev pub volume_fault_mode : Mode → VolumeFault → Mode
volume_fault_mode mode fault = told_mode mode (volume_says fault)

abbrev pub volume_fault_answer : VolumeFault → Answer
volume_fault_answer fault = told_answer volume_answer (volume_says fault)

abbrev pub journal_fault_mode : Mode → JournalFault → Mode
journal_fault_mode mode fault = told_mode mode (journal_says fault)

abbrev pub journal_fault_answer : JournalFault → Answer
journal_fault_answer fault = told_answer journal_answer (journal_says fault)

-- and of the pages of the file of that name
abbrev pub page_fault_mode : Mode → PageFault → Mode
page_fault_mode mode fault = told_mode mode (page_says fault)

abbrev pub page_fault_answer : List ℕ → PageFault → Answer
page_fault_answer name fault = told_answer (page_answer name) (page_says fault)

-- and of the actions on it
abbrev pub action_fault_mode : Mode → ActionFault → Mode
action_fault_mode mode fault = told_mode mode (action_says fault)

abbrev pub action_fault_answer : List ℕ → ActionFault → Answer
action_fault_answer name fault = told_answer (action_answer name) (action_says fault)

-- and of the mappings
abbrev pub map_fault_mode : Mode → MapFault → Mode
map_fault_mode mode fault = told_mode mode (map_says fault)

abbrev pub map_fault_answer : List ℕ → MapFault → Answer
map_fault_answer name fault = told_answer (map_answer name) (map_says fault)

-- and of a flush of the file of that name: what refuses it, and what is told once its lines were looked at again
abbrev pub flush_answer : List ℕ → FlushRefusal → Answer
flush_answer name Range = Refused because.Range
flush_answer name Length = Refused because.Length
flush_answer name Limit = Refused because.Limit
flush_answer name (Poison offset) = PoisonFile name offset
flush_answer name (Verify offset) = VerifyFile name offset

abbrev pub verify_answer : List ℕ → Result (Unit {0}) FlushFault → Answer
verify_answer name (Ok done) = Done
verify_answer name (Err flush.Range) = Done
verify_answer name (Err flush.Length) = Done
verify_answer name (Err flush.Limit) = Done
verify_answer name (Err (flush.Poison offset)) = Done
verify_answer name (Err (flush.Verify offset)) = VerifyFile name offset
verify_answer name (Err flush.Device) = Done
verify_answer name (Err flush.PowerLost) = Done

-- the mode after a call whose faults say this, and what it is answered where it gives that at Ok
abbrev pub mode_after : {T E R : Type 0} → (E → Told R) → Result T E → Mode
mode_after says (Ok x) = modes.On
mode_after says (Err f) = told_mode modes.On (says f)

abbrev pub answer_after : {T E R : Type 0} → (E → Told R) → (R → Answer) → Answer → Result T E → Answer
answer_after says answer good (Ok x) = good
answer_after says answer good (Err f) = told_answer answer (says f)

-- what a restart or a recovery is answered after a mount that was done: how many lines of blocks, volume and files are bad
pub record CountsBad (b : BlocksState) (v : VolumeState) (j : JournalState) (m : Medium) (answer : Answer) : Type 0 where
  pub bad : ℕ
  pub told : answer ≡ DoneBad bad
  pub count : (pages : List Page) → VolumeHolds v m pages → (files : List File) → FilesStand j.geo m j.tables files
      → bad ≡ bad_block_lines (blocks_of b m) + bad_lines pages + bad_file_lines files

-- what it is answered after one that was not done, and the mode
abbrev pub unmounted_answer : MountFault → Answer
unmounted_answer (mount.Meta line) = Stopped line.0
unmounted_answer (mount.Layout place) = DeviceFailed
unmounted_answer mount.Device = DeviceFailed
unmounted_answer mount.PowerLost = PowerLost
unmounted_answer mount.Memory = DeviceFailed

abbrev pub unmounted_mode : MountFault → Mode
unmounted_mode (mount.Meta line) = modes.Stopped
unmounted_mode (mount.Layout place) = modes.Unsettled
unmounted_mode mount.Device = modes.Unsettled
unmounted_mode mount.PowerLost = modes.Off
unmounted_mode mount.Memory = modes.Unsettled
