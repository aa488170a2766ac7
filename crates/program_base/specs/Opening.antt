-- Opening an image: what is read of it, and why it is not opened.
use Rattle.std.specs.Prelude.{◌≡◌, ◌⊎◌, ◌<◌, ◌≤◌, ℕ, List, length, Option, Some, None, IfSome, IsSomeAnd, ⊤}
use Rattle.nvm_base.specs.Counts.{Rose, raised}
use Rattle.host_io.specs.Images.{Held, KeepsHeld}
use Rattle.host_io.specs.declared.images.ImageCounts.{ImageCounts}
use Rattle.image_file.specs.Devices.{image_of, medium_of}
use Rattle.image_file.specs.Text.{IsSnapshot, Snapshot, TakesUnit, image_text}
use Rattle.image_file.specs.WrongField.{first_wrong_offset}
use Rattle.image_file.specs.declared.Units.{Units}
use Rattle.line_device.specs.Device.{Device}
use Rattle.line_device.specs.Panel.{Panel}
use Rattle.machine_host.specs.Machine.{Machine}
use Rattle.machine_host.specs.Restarting.{reading}
use Rattle.machine_host.specs.Costs.{Opens, mount_calls, mount_persists}
use Rattle.machine_host.specs.Run.{Transcript, silence}
use Rattle.machine_host.specs.Stands.{HostState, HostServes, Stands}
use Rattle.machine_host.specs.Telling.{Tells}
use Rattle.recovery.specs.Findings.{first_finding, geometry_told}
use Rattle.word_log.specs.Mount.Finding.{bad_line, wrong_word}
use Rattle.program_base.specs.Ending.{most_bytes}
use Rattle.program_base.specs.Begins.{Begins}
use Rattle.program_base.specs.World.{LeavesScript, World}
use Rattle.program_base.specs.declared.ending.Ending.{Ending}
use Rattle.program_base.specs.declared.ending.Ending.TheVariants.{Usage, Image, Layout, Meta, Read, Write, Memory, Script}
use Rattle.program_base.specs.declared.ending.Ending.TheVariants as endings

-- the state that is read in an image
abbrev pub opened : Snapshot → Machine
opened image = reading (geometry_told (medium_of image.lines)) (image_of image.unit image.lines)

-- this is the image that is held under the name, where that is told, and its unit is one of these
pub record IsHeld (units : Units) (name : List ℕ) (held : Option Held) (image : Snapshot) : Type 0 where
  pub right : IsSnapshot image
  pub taken : TakesUnit units image.unit
  pub text : IfSome held (λ look. look name ≡ Some (image_text image))

-- bytes are no image of one of these units from this offset on; or they are more than one may have, which is reported first,
-- whatever they are
abbrev pub IsNoImageFrom : Units → ℕ → List ℕ → Type 0
IsNoImageFrom units offset bytes =
    ((length bytes ≤ most_bytes) × (first_wrong_offset units bytes ≡ Some offset)) ⊎ ((most_bytes < length bytes) × (offset ≡ most_bytes))

-- and such bytes are held under the name
abbrev pub IsNoImage : Units → List ℕ → Option Held → ℕ → Type 0
IsNoImage units name held offset = IfSome held (λ look. IsSomeAnd (look name) (IsNoImageFrom units offset))

-- what setting up says: nothing, but it asks of the device what a mount may
abbrev pub opening : Transcript
opening = record silence { spent = record { calls = mount_calls; persists = mount_persists } }

-- The device was made that of this image, and a host mounted it: they stand for what is read there.
pub record Mounts (image : Snapshot) (host : HostState) (old new : Device) : Type 0 where
  pub right : first_finding (medium_of image.lines) ≡ None
  pub count : new.medium.count ≡ length image.lines
  pub serves : HostServes host new
  pub tells : Tells opening old.panel new.panel
  pub begin : Machine
  pub begins : Begins (opened image) old.panel begin
  pub stands : Stands host new begin

-- It was that of the image under the name.
pub record IsReady (units : Units) (name : List ℕ) (held : Option Held) (host : HostState) (old new : Device) : Type 0 where
  pub image : Snapshot
  pub held_there : IsHeld units name held image
  pub mounted : Mounts image host old new

-- the device could not be set up or read out, or failed or lost power
abbrev pub DeviceFailed : Panel → Panel → Type 0
DeviceFailed old new = Rose old.counts.setups new.counts.setups ⊎ Rose old.counts.faults new.counts.faults ⊎ Rose old.counts.cuts new.counts.cuts

-- Why no host mounted this image.
abbrev pub StaysUnmounted : Snapshot → Ending → Panel → Panel → Type 0
StaysUnmounted image (Layout place) old new = first_finding (medium_of image.lines) ≡ Some (wrong_word place)
StaysUnmounted image (Meta line) old new = first_finding (medium_of image.lines) ≡ Some (bad_line line)
StaysUnmounted image Memory old new = Unit {0}
StaysUnmounted image endings.Device old new = DeviceFailed old new
StaysUnmounted image Usage old new = ⊥
StaysUnmounted image (Image offset) old new = ⊥
StaysUnmounted image Read old new = ⊥
StaysUnmounted image Write old new = ⊥
StaysUnmounted image Script old new = ⊥

-- Why an image was not opened.
abbrev pub StaysClosed : Units → List ℕ → Option Held → Ending → ImageCounts → ImageCounts → Panel → Panel → Type 0
StaysClosed units name held (Image offset) counted counts old new = IsNoImage units name held offset
StaysClosed units name held (Layout place) counted counts old new =
    (image : Snapshot) × IsHeld units name held image × (first_finding (medium_of image.lines) ≡ Some (wrong_word place))
StaysClosed units name held (Meta line) counted counts old new =
    (image : Snapshot) × IsHeld units name held image × (first_finding (medium_of image.lines) ≡ Some (bad_line line))
StaysClosed units name held Read counted counts old new = Rose counted.fetch_faults counts.fetch_faults ⊎ IsSomeAnd held (λ look. look name ≡ None)
StaysClosed units name held Memory counted counts old new = Unit {0}
StaysClosed units name held endings.Device counted counts old new = (image : Snapshot) × IsHeld units name held image × DeviceFailed old new
StaysClosed units name held Usage counted counts old new = ⊥
StaysClosed units name held Write counted counts old new = ⊥
StaysClosed units name held Script counted counts old new = ⊥

-- an image was fetched, and none replaced
pub record CountsOpening (old new : ImageCounts) : Type 0 where
  pub fetches : new.fetches ≡ raised old.fetches
  pub fetch_faults : old.fetch_faults ≤ new.fetch_faults
  pub replaces : new.replaces ≡ old.replaces
  pub replace_faults : new.replace_faults ≡ old.replace_faults

-- An image was not opened: nothing was read of the script, nothing written, and no name has changed.
pub record FailsToOpen (units : Units) (name : List ℕ) (ending : Ending) (old new : World) : Type 0 where
  pub cause : StaysClosed units name old.held ending old.images new.images old.device.panel new.device.panel
  pub opens : Opens old.device.panel new.device.panel
  pub held : KeepsHeld (λ _. ⊤) old.held new.held
  pub counts : (new.images ≡ old.images) ⊎ CountsOpening old.images new.images
  pub written : new.written ≡ old.written
  pub script : LeavesScript old new
