-- When a host and its device stand for a state of the machine, and what a command comes to.
use Rattle.std.specs.Prelude.{◌≡◌, ◌≢◌, ◌+◌, ◌*◌, ◌/◌, ◌<◌, ◌≤◌, ℕ, Bool, true, false, IsTrue, List, [], ◌∷◌, Option, Some, None}
use Rattle.line_device.specs.Medium.{Medium, last_image}
use Rattle.line_device.specs.Device.{Device}
use Rattle.line_words.specs.Words.{IsOnly}
use Rattle.nvm_base.specs.declared.files.FileEntry.{FileEntry}
use Rattle.word_tables.specs.declared.geometry.Geometry.{Geometry}
use Rattle.block_device.specs.Object.{BlocksState, BlocksServe, blocks_of}
use Rattle.block_device.specs.Images.{AreReadable, EachReads}
use Rattle.script_text.specs.Action.{Action}
use Rattle.reply_text.specs.Answer.{Answer}
use Rattle.machine_host.specs.declared.held.HeldFiles.{HeldFiles}
use Rattle.machine_model.specs.declared.mode.Mode.{Mode}
use Rattle.machine_model.specs.declared.mode.Mode.TheVariants as modes
use Rattle.machine_model.specs.Machine.{Machine, Fate}
use Rattle.machine_model.specs.Commands.{MayLeaveBlocks, MayLeaveFiles, MayLeaveVolume}
use Rattle.machine_model.specs.Run.{Transcript, Takes}
use Rattle.machine_model.specs.Telling.{Tells}
use Rattle.machine_host.specs.Lines.{HasLayout, MetadataStands}
use Rattle.machine_model.specs.Lines.{bad_metadata}
use Rattle.file_journal.specs.Object.{JournalServes}
use Rattle.file_journal.specs.Standing.{EachReadsFiles, FilesStand}
use Rattle.file_journal.specs.Tables.{AreTables, known_units}
use Rattle.inode_table.specs.Slots.{inode_of, pages_at}
use Rattle.nvm_base.specs.Stock.{Stock}
use Rattle.nvm_model.specs.Events.{weak_file_lines}
use Rattle.nvm_model.specs.Storage.{Event, File, Mapping}
use Rattle.file_pages.specs.Object.{PagesState}
use Rattle.mappings.specs.Object.{MappingsState}
use Rattle.pm_volume.specs.Images.{EachReadsPages}
use Rattle.pm_volume.specs.Object.{VolumeState, VolumeHolds, VolumeServes}

-- what callers see of a host: the sizes of its medium and its survival unit, its mode, and the blocks, the volume and the files that it mounted last
pub record HostState : Type 0 where
  pub geometry : Geometry
  pub unit : ℕ
  pub mode : Mode
  pub blocks : BlocksState
  pub volume : VolumeState
  pub files : HeldFiles

-- the sizes of a host's medium, and its survival unit
abbrev pub medium_of : HostState → Geometry × ℕ
medium_of host = (host.geometry, host.unit)

-- whether the power is on in a mode
abbrev pub is_powered : Mode → Bool
is_powered modes.On = true
is_powered modes.Off = false
is_powered modes.Unsettled = true
is_powered modes.Stopped = true

-- no mappings, and handles from 0 on
abbrev pub no_mappings : MappingsState
no_mappings = record { mappings = []; next = 0 }

-- files as they were just mounted
abbrev pub just_mounted : PagesState → Stock Event → HeldFiles
just_mounted pages events = record { pages = pages; mappings = no_mappings; events = events }

-- the mappings of a state, and its next handle
abbrev pub mappings_of : Machine → MappingsState
mappings_of h = record { mappings = h.mappings; next = h.next_handle }

-- the file of a mapping is there, and has its stretch
pub record IsOnFile (slots : List (Option FileEntry)) (m : Mapping) : Type 0 where
  pub inode : ℕ
  pub found : inode_of m.name slots ≡ Some inode
  pub within : m.start + m.len ≤ 4096 * pages_at slots inode

-- each of these mappings has it
abbrev pub EachMapping : (Mapping → Type 0) → List Mapping → Type 0
EachMapping P [] = Unit {0}
EachMapping P (m ∷ ms) = P m × EachMapping P ms

-- There is room for an event of each weak line of the files, all of which a flush may lose.
pub record HasRoom (f : HeldFiles) (m : Medium) : Type 0 where
  pub files : List File
  pub stand : FilesStand f.pages.journal.geo m f.pages.journal.tables files
  pub enough : weak_file_lines files ≤ f.events.spare

-- The mounted blocks, volume and files are those of the device, ready for the next call, each mapping is on a file, and there is
-- room for events.
pub record AreMounted (geo : Geometry) (b : BlocksState) (v : VolumeState) (f : HeldFiles) (m : Medium) : Type 0 where
  pub geometry : b.geo ≡ geo
  pub settled : IsTrue b.settled
  pub serves : BlocksServe b m
  pub volume_geometry : v.geo ≡ geo
  pub volume_settled : IsTrue v.settled
  pub volume_serves : VolumeServes v m
  pub journal_geometry : f.pages.journal.geo ≡ geo
  pub journal_settled : IsTrue f.pages.journal.settled
  pub journal_serves : JournalServes f.pages.journal m
  pub journal_right : AreTables geo.fpages f.pages.journal.tables
  pub journal_held : known_units f.pages.journal.tables.pages f.pages.journal.free ≡ geo.fpages
  pub pages_settled : IsTrue f.pages.settled
  pub mapped : EachMapping (IsOnFile f.pages.journal.tables.files) f.mappings.mappings
  pub room : HasRoom f m

-- The host may command the device: it has the lines of the host's sizes, and blocks can be read in each image, where no line of
-- metadata is bad. Its power is off exactly in mode Off, in mode On all storage is mounted, and in mode Stopped a line of
-- metadata is bad.
pub record HostServes (host : HostState) (d : Device) : Type 0 where
  pub layout : HasLayout host.geometry d.medium
  pub readable : bad_metadata host.geometry d.medium.is_bad ≡ [] → AreReadable host.geometry d.medium
  pub power : d.panel.power ≡ is_powered host.mode
  pub mounted : host.mode ≡ modes.On → AreMounted host.geometry host.blocks host.volume host.files d.medium
  pub stopped : host.mode ≡ modes.Stopped → bad_metadata host.geometry d.medium.is_bad ≢ []

-- each word of the device has one value, as where the power just came back
abbrev pub IsFlushed : Medium → Type 0
IsFlushed m = (p : ℕ) → p / 8 < m.count → IsOnly (last_image m p) (m.history p)

-- The device stands for the state: its unit, its metadata, its blocks, pages and files in each image, where no line of metadata is bad, and
-- what is armed. Where an action was interrupted, they are as it may have left them.
pub record DeviceStands (d : Device) (h : Machine) : Type 0 where
  pub unit : d.panel.unit ≡ h.unit
  pub metadata : MetadataStands h.geometry d.medium h.bad_meta
  pub blocks : h.bad_meta ≡ [] → EachReads h.geometry d.medium (MayLeaveBlocks h.interrupted h.blocks)
  pub volume : h.bad_meta ≡ [] → EachReadsPages h.geometry d.medium (MayLeaveVolume h.geometry h.interrupted h.volume)
  pub files : h.bad_meta ≡ [] → EachReadsFiles h.geometry d.medium (MayLeaveFiles h.mappings h.interrupted h.files)
  pub power : d.panel.power ≡ is_powered h.mode
  pub cut_armed : d.panel.cut_armed ≡ h.cut_armed
  pub fail_armed : d.panel.fail_armed ≡ h.fail_armed
  pub whole : h.mode ≡ modes.On → h.interrupted ≡ None
  pub stopped : h.mode ≡ modes.Stopped → h.bad_meta ≢ []

-- and the host is in its mode, and sees its blocks, pages, files, mappings and events
pub record Stands (host : HostState) (d : Device) (h : Machine) : Type 0 where
  pub geometry : host.geometry ≡ h.geometry
  pub unit : host.unit ≡ h.unit
  pub mode : host.mode ≡ h.mode
  pub blocks : host.mode ≡ modes.On → blocks_of host.blocks d.medium ≡ h.blocks
  pub volume : host.mode ≡ modes.On → VolumeHolds host.volume d.medium h.volume
  pub files : host.mode ≡ modes.On → FilesStand host.files.pages.journal.geo d.medium host.files.pages.journal.tables h.files
  pub mappings : host.mode ≡ modes.On → host.files.mappings ≡ mappings_of h
  pub events : host.mode ≡ modes.On → host.files.events.items ≡ h.events
  pub device : DeviceStands d h

-- The command came to this in h: the device tells what was said, and stands for the state after.
pub record Comes (h : Machine) (action : Action) (fate : Fate) (answer : Answer) (host : HostState) (old new : Device) : Type 0 where
  pub said : Transcript
  pub next : Machine
  pub answers : said.answers ≡ answer ∷ []
  pub takes : Takes h action fate said next
  pub tells : Tells said old.panel new.panel
  pub stands : Stands host new next
