-- The six kinds of step of a run: it leaves all as it is, it is done, it is stopped, the power returned, the storage was mounted
-- anew, or metadata was bad as it was to be mounted.
use Rattle.std.specs.Prelude.{◌≡◌, ◌≢◌, ◌⊎◌, ◌/◌, false, List, [], Some, None}
use Rattle.line_device.specs.Panel.{Image}
use Rattle.line_device.specs.declared.line.Choice.{Choice}
use Rattle.line_words.specs.declared.interruption.Interruption.{Interruption}
use Rattle.word_tables.specs.declared.geometry.Geometry.{Geometry}
use Rattle.word_tables.specs.Layout.{volume_line}
use Rattle.nvm_model.specs.Blocks.{lose}
use Rattle.nvm_model.specs.Cell.{lose_cell, weaken_cell}
use Rattle.nvm_model.specs.Page.{Page, change_line, read_pages}
use Rattle.nvm_model.specs.Storage.{Block, File, Mapping}
use Rattle.block_device.specs.Reading.{blocks_read}
use Rattle.pm_volume.specs.Presence.{presence_read}
use Rattle.file_journal.specs.Standing.{files_read}
use Rattle.reply_text.specs.Answer.{Answer}
use Rattle.script_text.specs.Action.{Action}
use Rattle.script_text.specs.Action.Action.{PoisonBlock, PoisonFile, PoisonVolume, WeakenFile, WeakenVolume}
use Rattle.machine_model.specs.declared.mode.Mode.TheVariants.{On, Off, Stopped}
use Rattle.machine_model.specs.declared.needs.Needs.TheVariants.{Usable}
use Rattle.machine_model.specs.Machine.{Machine}
use Rattle.machine_model.specs.Commands.{MayLeaveBlocks, MayLeaveFiles, MayLeaveVolume, meaning, refusal}
use Rattle.machine_model.specs.Interrupted.{interrupted_answer}
use Rattle.machine_model.specs.OnFileErrors.{marked_in}
use Rattle.machine_model.specs.Restarting.{MayLeaveStorage}
use Rattle.durable.specs.Place.{Place}
use Rattle.durable.specs.Touching.{changes, is_made_durable, poisons, weakens, wears_with}
use Rattle.durable.specs.Files.{changes_files}
use Rattle.durable.specs.Durable.{HasNothing, IsDone}
use Rattle.durable.specs.Whole.{IsMount}

-- it leaves blocks, volume, files and mappings, and what is interrupted
pub record Idles (h next : Machine) : Type 0 where
  pub geometry : next.geometry ≡ h.geometry
  pub unit : next.unit ≡ h.unit
  pub blocks : next.blocks ≡ h.blocks
  pub volume : next.volume ≡ h.volume
  pub files : next.files ≡ h.files
  pub mappings : next.mappings ≡ h.mappings
  pub interrupted : next.interrupted ≡ h.interrupted
  pub metadata : h.bad_meta ≢ [] → next.bad_meta ≢ []
  pub mode : next.mode ≡ On → h.mode ≡ On
  pub stopped : next.mode ≡ Stopped → h.mode ≡ Stopped

-- what a command makes of blocks, volume and files
abbrev pub blocks_after : Action → List Block → List Block
blocks_after (PoisonBlock block line) blocks = lose block line blocks
blocks_after action blocks = (meaning action).blocks blocks

abbrev pub volume_after : Geometry → Action → List Page → List Page
volume_after geo (PoisonVolume offset) pages = change_line lose_cell (offset / 64) pages
volume_after geo (WeakenVolume offset) pages = change_line weaken_cell (offset / 64) pages
volume_after geo action pages = (meaning action).volume geo pages

abbrev pub files_made : List Mapping → Action → List File → List File
files_made mappings (PoisonFile name offset) files = marked_in lose_cell name offset files
files_made mappings (WeakenFile name offset) files = marked_in weaken_cell name offset files
files_made mappings action files = (meaning action).files mappings files

-- it is done
pub record Alters (h : Machine) (action : Action) (next : Machine) : Type 0 where
  pub geometry : next.geometry ≡ h.geometry
  pub unit : next.unit ≡ h.unit
  pub blocks : next.blocks ≡ blocks_after action h.blocks
  pub volume : next.volume ≡ volume_after h.geometry action h.volume
  pub files : next.files ≡ files_made h.mappings action h.files
  pub interrupted : next.interrupted ≡ h.interrupted
  pub mode : next.mode ≡ h.mode
  pub needs : (meaning action).needs ≡ Usable

-- it is stopped
pub record Stops (h : Machine) (action : Action) (next : Machine) : Type 0 where
  pub geometry : next.geometry ≡ h.geometry
  pub unit : next.unit ≡ h.unit
  pub blocks : next.blocks ≡ h.blocks
  pub volume : next.volume ≡ h.volume
  pub files : next.files ≡ h.files
  pub mappings : next.mappings ≡ h.mappings
  pub interrupted : next.interrupted ≡ Some action
  pub metadata : next.bad_meta ≡ h.bad_meta
  pub mode : next.mode ≢ On
  pub stopped : next.mode ≢ Stopped
  pub needs : (meaning action).needs ≡ Usable

-- the power returned
pub record Returns (h next : Machine) : Type 0 where
  pub off : h.mode ≡ Off
  pub metadata : h.bad_meta ≡ []
  pub choice : Choice
  pub image : Image
  pub may : MayLeaveStorage choice image h
  pub image_unit : next.unit ≡ image.unit
  pub geometry : next.geometry ≡ h.geometry
  pub unit : next.unit ≡ h.unit
  pub blocks : next.blocks ≡ blocks_read h.geometry image.is_bad image.word
  pub volume : next.volume ≡ read_pages (volume_line h.geometry) image (presence_read h.geometry image.word)
  pub files : next.files ≡ files_read h.geometry image
  pub interrupted : next.interrupted ≡ None
  pub stopped : next.mode ≢ Stopped

-- the storage was mounted anew while the power was on
pub record Remounts (h next : Machine) : Type 0 where
  pub metadata : h.bad_meta ≡ []
  pub geometry : next.geometry ≡ h.geometry
  pub unit : next.unit ≡ h.unit
  pub blocks : MayLeaveBlocks h.interrupted h.blocks next.blocks
  pub volume : MayLeaveVolume h.geometry h.interrupted h.volume next.volume
  pub files : MayLeaveFiles h.mappings h.interrupted h.files next.files
  pub interrupted : next.interrupted ≡ None
  pub stopped : next.mode ≢ Stopped

-- metadata was bad as it was to be mounted
pub record Empties (h next : Machine) : Type 0 where
  pub geometry : next.geometry ≡ h.geometry
  pub unit : next.unit ≡ h.unit
  pub nothing : HasNothing next

-- it makes nothing durable, and changes no files
pub record CoversNothing (h : Machine) (action : Action) : Type 0 where
  pub bytes : (x : Place) → is_made_durable h action x ≡ false
  pub files : changes_files action ≡ false

-- nor does it change or harm anything
pub record TouchesNothing (action : Action) : Type 0 where
  pub change : (mappings : List Mapping) (x : Place) → changes mappings action x ≡ false
  pub poison : (x : Place) → poisons action x ≡ false
  pub weaken : (x : Place) → weakens action x ≡ false
  pub cover : (geo : Geometry) (mappings : List Mapping) (x : Place) → wears_with geo mappings action x ≡ false
  pub files : changes_files action ≡ false

pub data Step (h : Machine) (action : Action) (answer : Answer) (next : Machine) : Type 0 where
  idles : (refusal h action ≡ Some answer) ⊎ CoversNothing h action → Idles h next → Step h action answer next
  alters : IsDone answer ⊎ TouchesNothing action → refusal h action ≡ None → Alters h action next → Step h action answer next
  stops : (by : Interruption) → answer ≡ interrupted_answer by → refusal h action ≡ None → Stops h action next → Step h action answer next
  returns : CoversNothing h action × IsMount action → Returns h next → Step h action answer next
  remounts : CoversNothing h action × IsMount action → Remounts h next → Step h action answer next
  empties : CoversNothing h action × IsMount action → Empties h next → Step h action answer next
