-- What a restart may leave, and the state that the machine reads there.
use Rattle.std.specs.Prelude.{◌≡◌, ℕ, false, List, [], ◌∷◌, None}
use Rattle.line_device.specs.Panel.{Image}
use Rattle.line_device.specs.declared.line.Choice.{Choice}
use Rattle.word_tables.specs.declared.geometry.Geometry.{Geometry}
use Rattle.word_tables.specs.Layout.{total_lines, volume_line}
use Rattle.pm_volume.specs.Presence.{presence_read}
use Rattle.nvm_model.specs.Events.{restart_events}
use Rattle.nvm_model.specs.Page.{Page, presence_of, read_pages, KeepsPages}
use Rattle.nvm_model.specs.Storage.{Block, File}
use Rattle.block_device.specs.Reading.{blocks_read}
use Rattle.file_journal.specs.Standing.{files_read, KeepsFiles}
use Rattle.reply_text.specs.Answer.{Answer}
use Rattle.reply_text.specs.Answer.Answer.{DoneBad, Stopped}
use Rattle.machine_model.specs.declared.mode.Mode.TheVariants as modes
use Rattle.machine_model.specs.Machine.{Machine, bad_of}
use Rattle.machine_model.specs.Commands.{MayLeaveBlocks, MayLeaveFiles, MayLeaveVolume}
use Rattle.machine_model.specs.Lines.{bad_metadata}

-- the state at rest of these blocks, pages and files, where words are kept whole, in which each bad line of a file is an event
abbrev pub holding : Geometry → List Block → List Page → List File → Machine
holding geometry blocks pages files = record {
  geometry = geometry;
  unit = 8;
  blocks = blocks;
  volume = pages;
  files = files;
  mappings = [];
  next_handle = 0;
  events = restart_events files;
  bad_meta = [];
  mode = modes.On;
  interrupted = None;
  cut_armed = false;
  fail_armed = false;
}

-- the state where these lines of metadata are bad: nothing is read
abbrev pub stopped_by : Geometry → List ℕ → Machine
stopped_by geometry bad_meta = record (holding geometry [] [] []) { bad_meta = bad_meta; mode = modes.Stopped }

-- the state that a medium stands for where words are kept whole, by the bad lines of its metadata
abbrev pub read_with : List ℕ → Geometry → Image → Machine
read_with [] geometry image =
    holding geometry (blocks_read geometry image.is_bad image.word) (read_pages (volume_line geometry) image (presence_read geometry image.word))
    (files_read geometry image)
read_with (line ∷ lines) geometry image = stopped_by geometry (line ∷ lines)

-- the state that a medium stands for
unfoldable pub reading : Geometry → Image → Machine
reading geometry image = record (read_with (bad_metadata geometry image.is_bad) geometry image) { unit = image.unit }

-- the machine after a restart that left this image; what is armed stays
abbrev pub restarted : Machine → Image → Machine
restarted h image = record (reading h.geometry image) { cut_armed = h.cut_armed; fail_armed = h.fail_armed }

-- what a mount is answered that ran through: how many lines of storage are bad, or the lowest bad one of metadata
abbrev pub answer_with : List ℕ → Machine → Answer
answer_with [] h = DoneBad (bad_of h)
answer_with (line ∷ lines) h = Stopped line

abbrev pub mounted_answer : Machine → Answer
mounted_answer h = answer_with h.bad_meta h

-- What a restart may leave of storage: blocks, volume and files as an interrupted action may have left them, the same pages there,
-- and of each word of them one of its values.
pub record MayLeaveStorage (choice : Choice) (image : Image) (h : Machine) : Type 0 where
  pub blocks : MayLeaveBlocks h.interrupted h.blocks (blocks_read h.geometry image.is_bad image.word)
  pub left : List Page
  pub may : MayLeaveVolume h.geometry h.interrupted h.volume left
  pub there : presence_of left ≡ presence_read h.geometry image.word
  pub volume : KeepsPages choice (volume_line h.geometry) image left
  pub files_left : List File
  pub may_files : MayLeaveFiles h.mappings h.interrupted h.files files_left
  pub files : KeepsFiles choice h.geometry image files_left

-- What a restart may leave of a state: the same unit, the same lines of metadata bad, and that of storage where there are none.
pub record RestartMayLeave (choice : Choice) (image : Image) (h : Machine) : Type 0 where
  pub unit : image.unit ≡ h.unit
  pub metadata : bad_metadata h.geometry image.is_bad ≡ h.bad_meta
  pub storage : h.bad_meta ≡ [] → MayLeaveStorage choice image h

-- a medium of zeros, where words are kept whole
abbrev pub zero_image : ℕ → Image
zero_image count = record { count = count; is_bad = λ _. false; is_weak = λ _. false; unit = 8; word = λ _. 0 }

-- the machine as a run begins
abbrev pub fresh : Geometry → Machine
fresh geometry = read_with [] geometry (zero_image (total_lines geometry))
