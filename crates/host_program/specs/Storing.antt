-- What is held once an image was stored.
use Rattle.std.specs.Prelude.{◌≡◌, ◌≢◌, ◌⊎◌, ℕ, List, [], ◌∷◌, Option, Some, None, IfSome, Result, MatchResult, ⊤}
use Rattle.nvm_base.specs.Counts.{Rose, raised}
use Rattle.nvm_base.specs.Stock.{Stock}
use Rattle.host_io.specs.Images.{Held, KeepsHeld}
use Rattle.image_file.specs.Devices.{IsLastImage, image_of, medium_of}
use Rattle.image_file.specs.Text.{IsSnapshot, Snapshot, image_text}
use Rattle.host_io.specs.declared.images.ImageCounts.{ImageCounts}
use Rattle.line_device.specs.Device.{Device}
use Rattle.line_device.specs.Medium.{Medium, WritesBack}
use Rattle.line_device.specs.Panel.{KeepsPower, Outcome, Panel, SetsUp}
use Rattle.line_device.specs.Panel.Outcome.{went}
use Rattle.line_device.specs.declared.line.Choice.TheVariants.{Lasts}
use Rattle.line_device.specs.declared.line.LineState.{LineState}
use Rattle.machine_host.specs.Machine.{Machine}
use Rattle.machine_host.specs.Restarting.{RestartMayLeave}
use Rattle.recovery.specs.Findings.{first_finding, geometry_told}
use Rattle.word_log.specs.Mount.{Finding}
use Rattle.word_log.specs.Mount.Finding.{bad_line}
use Rattle.program_base.specs.declared.ending.Ending.{Ending}
use Rattle.program_base.specs.declared.ending.Ending.TheVariants.{Memory, Write}
use Rattle.program_base.specs.declared.ending.Ending.TheVariants as endings

-- the image is held under the name, and what is held under other names stays
pub record Holds (name : List ℕ) (image : Snapshot) (old new : Option Held) : Type 0 where
  pub text : IfSome new (λ look. look name ≡ Some (image_text image))
  pub others : KeepsHeld (λ other. other ≢ name) old new

-- what is found first in what a state is stored as: its lowest bad line of metadata, or nothing
abbrev pub finding_of : List ℕ → Option Finding
finding_of [] = None
finding_of (line ∷ lines) = Some (bad_line line)

-- What is read in the image again is what a restart leaves of the state that loses nothing, of its unit. Where a line of metadata is
-- bad, the image tells the lowest one, as it is checked too: `error meta` and its number. Else the image is a right one of these sizes.
pub record IsReadAgain (image : Snapshot) (h : Machine) : Type 0 where
  pub found : first_finding (medium_of image.lines) ≡ finding_of h.bad_meta
  pub sizes : h.bad_meta ≡ [] → geometry_told (medium_of image.lines) ≡ h.geometry
  pub left : RestartMayLeave Lasts (image_of image.unit image.lines) h

-- All lines of the device are held under the name, as they were last stored, and are read again as the state that it stands for.
pub record IsStored (name : List ℕ) (old new : Option Held) (m : Medium) (h : Machine) : Type 0 where
  pub image : Snapshot
  pub last : IsLastImage m image.lines
  pub right : IsSnapshot image
  pub holds : Holds name image old new
  pub again : IsReadAgain image h

-- No name has changed; but after a failed replace nothing is known of this one.
abbrev pub HoldsOn : List ℕ → Option Held → Option Held → ImageCounts → ImageCounts → Type 0
HoldsOn name old new counted counts =
    KeepsHeld (λ _. ⊤) old new ⊎ (Rose counted.replace_faults counts.replace_faults × KeepsHeld (λ other. other ≢ name) old new)

-- the lines as they were last stored, as an image of this unit
pub record AreLast (unit : ℕ) (m : Medium) (text : List ℕ) : Type 0 where
  pub lines : List LineState
  pub last : IsLastImage m lines
  pub right : IsSnapshot (record { unit = unit; lines = lines })
  pub is : text ≡ image_text (record { unit = unit; lines = lines })

-- there was no memory, or the device could not be read out
abbrev pub NotReadOut : Ending → Panel → Panel → Type 0
NotReadOut ending old new = (ending ≡ Memory) ⊎ ((ending ≡ endings.Device) × Rose old.counts.setups new.counts.setups)

-- The lines of a device were read out, and only written back.
pub record ReadsOut (unit : ℕ) (result : Result (Stock ℕ) Ending) (old new : Device) : Type 0 where
  pub end : Outcome
  pub sets_up : SetsUp end old.panel new.panel
  pub power : KeepsPower end old.panel new.panel
  pub wrote : WritesBack old.medium new.medium
  pub outcome : MatchResult result (λ text. (end ≡ went) × AreLast unit old.medium text.items) (λ ending. NotReadOut ending old.panel new.panel)

-- They were stored, or what is held is as it was but for a failed replace; they were read out where it was the writing that failed.
pub record Stores (unit : ℕ) (name : List ℕ) (result : Result (Unit {0}) Ending) (held_old held_new : Option Held) (counted counts : ImageCounts) (old new : Device) : Type 0 where
  pub end : Outcome
  pub sets_up : SetsUp end old.panel new.panel
  pub power : KeepsPower end old.panel new.panel
  pub wrote : WritesBack old.medium new.medium
  pub fetches : counts.fetches ≡ counted.fetches
  pub fetch_faults : counts.fetch_faults ≡ counted.fetch_faults
  pub outcome : MatchResult result
      (λ _. (end ≡ went) × (counts.replaces ≡ raised counted.replaces)
      × (text : List ℕ) × AreLast unit old.medium text × IfSome held_new (λ look. look name ≡ Some text) × KeepsHeld (λ other. other ≢ name) held_old held_new)
      (λ ending. (NotReadOut ending old.panel new.panel ⊎ ((ending ≡ Write) × (end ≡ went) × Rose counted.replace_faults counts.replace_faults))
      × HoldsOn name held_old held_new counted counts
      × ((counts.replaces ≡ counted.replaces) ⊎ (counts.replaces ≡ raised counted.replaces)))
