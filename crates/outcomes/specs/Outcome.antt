-- Storage that a restart may leave of a state without power, and what a look shows of it.
use Rattle.std.specs.Prelude.{◌≡◌, ◌⊎◌, ◌≤◌, ℕ, List, [], ◌∷◌, length, map, Option, Some, None, slice_get}
use Rattle.line_device.specs.History.{IsIn}
use Rattle.nvm_model.specs.Blocks.{look_blocks}
use Rattle.nvm_model.specs.Cell.{Cell}
use Rattle.nvm_model.specs.Cell.Cell.{Bad, Kept}
use Rattle.nvm_model.specs.Interrupted.{LineByLine}
use Rattle.nvm_model.specs.Page.{Page, cell_of, look}
use Rattle.nvm_model.specs.Listing.{AreAlike, file_name}
use Rattle.nvm_model.specs.Storage.{Block, File, Mapping}
use Rattle.script_text.specs.Action.{Action}
use Rattle.reply_text.specs.Answer.Answer.{Bytes}
use Rattle.machine_model.specs.Commands.{MayLeaveBlocks, MayLeaveFiles, MayLeaveVolume, meaning, refusal}
use Rattle.machine_model.specs.Machine.{Machine}
use Rattle.machine_model.specs.OnPages.{pages_named}
use Rattle.machine_model.specs.Restarting.{holding}
use Rattle.outcomes.specs.Blocks.{BlockRead}
use Rattle.outcomes.specs.Files.{FileRead}
use Rattle.outcomes.specs.Pages.{PageRead}
use Rattle.outcomes.specs.Seen.{Seen, answer, command}
use Rattle.outcomes.specs.Seen.Seen.{of_volume, of_blocks, of_file}

-- the bytes that a read gives
abbrev pub bytes_seen : Machine → Seen → List ℕ
bytes_seen g (of_volume r) = look g.volume r.start r.len
bytes_seen g (of_blocks r) = look_blocks g.blocks r.first r.count
bytes_seen g (of_file r) = look (pages_named r.name g.files) r.pages.start r.pages.len

-- a read is refused with its reply, or gives its bytes
abbrev pub Shown : Machine → Seen → Type 0
Shown g seen = (refusal g (command seen) ≡ Some (answer seen)) ⊎ ((refusal g (command seen) ≡ None) × (answer seen ≡ Bytes (bytes_seen g seen)))

abbrev pub AllShown : Machine → List Seen → Type 0
AllShown g [] = Unit {0}
AllShown g (seen ∷ look) = Shown g seen × AllShown g look

-- what a restart leaves of a line: of each word one of its values
abbrev pub Survives : Cell → Cell → Type 0
Survives Bad Bad = Unit {0}
Survives Bad (Kept mark values) = ⊥
Survives (Kept weak words) Bad = ⊥
Survives (Kept weak words) (Kept mark values) =
    (mark ≡ weak) × (length values ≡ length words)
    × ((w : ℕ) (history : List ℕ) → slice_get words w ≡ Some history → (v : ℕ) × IsIn v history × (slice_get values w ≡ Some (v ∷ [])))

abbrev pub PagesSurvive : List Page → List Page → Type 0
PagesSurvive = LineByLine (λ n. Survives)

-- An outcome of the volume: pages as the interrupted action may have left them, of which a restart kept one value of each word, and
-- which show these reads, whatever blocks and files there are.
pub record VolumeOutcome (off : Machine) (reads : List PageRead) : Type 0 where
  pub left : List Page
  pub may : MayLeaveVolume off.geometry off.interrupted off.volume left
  pub volume : List Page
  pub kept : PagesSurvive left volume
  pub shown : (blocks : List Block) (files : List File) → AllShown (holding off.geometry blocks volume files) (map of_volume reads)

-- The same of blocks, which a restart keeps as they are.
pub record BlocksOutcome (off : Machine) (reads : List BlockRead) : Type 0 where
  pub left : List Block
  pub may : MayLeaveBlocks off.interrupted off.blocks left
  pub shown : (volume : List Page) (files : List File) → AllShown (holding off.geometry left volume files) (map of_blocks reads)

-- The same of files: each word of each of their lines keeps one value.
abbrev pub FilesSurvive : List File → List File → Type 0
FilesSurvive = AreAlike file_name file_name (λ (old now : File). PagesSurvive old.pages now.pages)

pub record FilesOutcome (off : Machine) (reads : List FileRead) : Type 0 where
  pub left : List File
  pub may : MayLeaveFiles off.mappings off.interrupted off.files left
  pub files : List File
  pub kept : FilesSurvive left files
  pub shown : (blocks : List Block) (volume : List Page) → AllShown (holding off.geometry blocks volume files) (map of_file reads)

-- each word of a line has a value, as in all that is read from an image or stored
abbrev pub HasValues : Cell → Type 0
HasValues Bad = Unit {0}
HasValues (Kept weak words) = (w : ℕ) (history : List ℕ) → slice_get words w ≡ Some history → 1 ≤ length history

-- so has each line of pages
abbrev pub HaveValues : List Page → Type 0
HaveValues pages = (n : ℕ) (cell : Cell) → cell_of pages n ≡ Some cell → HasValues cell

-- so has each file, as it is and as the interrupted action would make it
abbrev pub AllHaveValues : List File → Type 0
AllHaveValues [] = Unit {0}
AllHaveValues (file ∷ files) = HaveValues file.pages × AllHaveValues files

abbrev pub MadeHaveValues : List Mapping → Option Action → List File → Type 0
MadeHaveValues mappings None files = Unit {0}
MadeHaveValues mappings (Some action) files = AllHaveValues ((meaning action).files mappings files)

abbrev pub FilesHaveValues : Machine → Type 0
FilesHaveValues off = AllHaveValues off.files × MadeHaveValues off.mappings off.interrupted off.files
