-- What a row of the table says of a command, and in which order reasons refuse it.
use Rattle.std.specs.Prelude.{◌+◌, ◌==◌, ℕ, Bool, true, false, List, [], ◌∷◌, Option, Some, None, nat_lt, option_map, if◌then◌else◌}
use Rattle.nvm_base.specs.declared.units.Span.{Span}
use Rattle.line_device.specs.declared.line.Choice.{Choice}
use Rattle.word_tables.specs.declared.geometry.Geometry.{Geometry}
use Rattle.nvm_model.specs.Blocks.{first_there}
use Rattle.nvm_model.specs.Page.{Page}
use Rattle.nvm_model.specs.Storage.{Block, File, Mapping}
use Rattle.reply_text.specs.declared.reply.Why.{Why}
use Rattle.reply_text.specs.declared.reply.Why.TheVariants as because
use Rattle.reply_text.specs.Answer.{Answer}
use Rattle.reply_text.specs.Answer.Answer.{Refused, RefusedMeta}
use Rattle.machine_model.specs.declared.mode.Mode.{Mode}
use Rattle.machine_model.specs.declared.mode.Mode.TheVariants as modes
use Rattle.machine_model.specs.declared.needs.Needs.{Needs}
use Rattle.machine_model.specs.declared.needs.Needs.TheVariants.{Usable, Anytime, Powered, Unpowered, Failed}
use Rattle.machine_model.specs.Lines.{lowest}
use Rattle.machine_model.specs.Costs.{Spending, no_spending}
use Rattle.machine_model.specs.Machine.{Machine, Fate}

-- Why a command is refused that its mode allows, kind by kind: what it names is missing, there or in use; the places that it
-- names; there is no room; it would change metadata, of which a line is bad; something of it can't be read.
pub record Reasons : Type 0 where
  pub named : Option Answer
  pub places : Option Answer
  pub full : Option Answer
  pub changes_metadata : Bool
  pub unreadable : Option Answer

abbrev pub no_reasons : Reasons
no_reasons = record { named = None; places = None; full = None; changes_metadata = false; unreadable = None }

-- what an interruption may leave of the blocks: all as they were, all old or all new, or each of them old or new
pub data BlocksLeft : Type 0 where
  Same : BlocksLeft
  Either : BlocksLeft
  Mixed : BlocksLeft

-- and of the volume: all as it was, a part of what is stored there or made durable, all pages old or all new, or each of them
pub data VolumeLeft : Type 0 where
  Kept : VolumeLeft
  PartStored : ℕ → List ℕ → VolumeLeft
  PartSynced : ℕ → ℕ → VolumeLeft
  AllOrNone : VolumeLeft
  PageByPage : VolumeLeft

-- and of the files: all as they were, all old or all new, or a part of what is stored in one or of what is made durable there
pub data FilesLeft : Type 0 where
  Unchanged : FilesLeft
  OldOrNew : FilesLeft
  StoredInPart : List ℕ → ℕ → List ℕ → FilesLeft
  SyncedInPart : List ℕ → List Span → FilesLeft

-- what want of memory leaves: all as it was; lines that were written back; a restart that was refused, or done with no mount;
-- or a recovery that mounted nothing
pub data Starved : Type 0 where
  Untouched : Starved
  WrittenBack : Starved
  Unmounted : Choice → Starved
  Unrecovered : Starved

-- A command: the mode that it needs, the places that the host looks at before anything else does, all that refuses it, what
-- comes of it where nothing does, what it makes of blocks, volume and files (of which a handle names one by the mappings), what an
-- interruption may leave of them and want of memory of all, whether memory may be wanting where there is room for the reply, what it
-- may spend, and that room.
pub record Meaning : Type 0 where
  pub needs : Needs
  pub checked : Geometry → Option Why
  pub reasons : Machine → Reasons
  pub comes : Machine → Fate
  pub blocks : List Block → List Block
  pub volume : Geometry → List Page → List Page
  pub files : List Mapping → List File → List File
  pub blocks_left : BlocksLeft
  pub volume_left : Geometry → VolumeLeft
  pub files_left : List Mapping → FilesLeft
  pub starved : Starved
  pub wants_memory : Bool
  pub spends : Machine → Spending
  pub room : ℕ

-- the places that the host looks at are all that refuses it
abbrev pub placed : (Geometry → Option Why) → Machine → Reasons
placed checked h = record no_reasons { places = option_map Refused (checked h.geometry) }

-- a command that leaves blocks, volume and files, and makes no call
abbrev pub quiet : Needs → (Geometry → Option Why) → (Machine → Fate) → Meaning
quiet needs checked comes = record {
  needs = needs;
  checked = checked;
  reasons = placed checked;
  comes = comes;
  blocks = λ blocks. blocks;
  volume = λ geo pages. pages;
  files = λ mappings files. files;
  blocks_left = Same;
  volume_left = λ geo. Kept;
  files_left = λ mappings. Unchanged;
  starved = Untouched;
  wants_memory = false;
  spends = λ h. no_spending;
  room = 72;
}

-- no place is wrong
abbrev pub anywhere : Geometry → Option Why
anywhere geo = None

-- why a mode refuses what needs another, while these lines of metadata are bad
abbrev pub mode_refusal : Mode → List ℕ → Needs → Option Answer
mode_refusal modes.On bad_meta Usable = None
mode_refusal modes.On bad_meta Anytime = None
mode_refusal modes.On bad_meta Powered = None
mode_refusal modes.On bad_meta Unpowered = Some (Refused because.On)
mode_refusal modes.On bad_meta Failed = Some (Refused because.On)
mode_refusal modes.Off bad_meta Usable = Some (Refused because.Off)
mode_refusal modes.Off bad_meta Anytime = None
mode_refusal modes.Off bad_meta Powered = Some (Refused because.Off)
mode_refusal modes.Off bad_meta Unpowered = None
mode_refusal modes.Off bad_meta Failed = Some (Refused because.Off)
mode_refusal modes.Unsettled bad_meta Usable = Some (Refused because.Recover)
mode_refusal modes.Unsettled bad_meta Anytime = None
mode_refusal modes.Unsettled bad_meta Powered = None
mode_refusal modes.Unsettled bad_meta Unpowered = Some (Refused because.On)
mode_refusal modes.Unsettled bad_meta Failed = None
mode_refusal modes.Stopped bad_meta Usable = Some (RefusedMeta (lowest bad_meta))
mode_refusal modes.Stopped bad_meta Anytime = None
mode_refusal modes.Stopped bad_meta Powered = None
mode_refusal modes.Stopped bad_meta Unpowered = Some (Refused because.On)
mode_refusal modes.Stopped bad_meta Failed = Some (RefusedMeta (lowest bad_meta))

-- the lowest bad line of metadata refuses what would change it
abbrev pub metadata_refusal : Bool → List ℕ → Option Answer
metadata_refusal false bad_meta = None
metadata_refusal true [] = None
metadata_refusal true (line ∷ lines) = Some (RefusedMeta line)

-- The first reason: the mode, and then kind by kind.
abbrev pub first_reason : Option Answer → List ℕ → Reasons → Option Answer
first_reason mode bad_meta r =
    first_there mode
    (first_there r.named (first_there r.places (first_there r.full (first_there (metadata_refusal r.changes_metadata bad_meta) r.unreadable))))

-- what is wrong with a span of something of this size: past its end, and else empty
abbrev pub span_refusal : ℕ → ℕ → ℕ → Option Why
span_refusal size offset len =
    if nat_lt size (offset + len) then Some because.Range else (if len == 0 then Some because.Length else None)

-- the same of what a read asks for, where no more than that is read at once
abbrev pub most_refusal : ℕ → ℕ → ℕ → ℕ → Option Why
most_refusal most size start len = first_there (span_refusal size start len) (if nat_lt most len then Some because.Limit else None)
