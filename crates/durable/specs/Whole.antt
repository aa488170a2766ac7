-- What storage has once a command that is done as a whole was stopped, and the storage is mounted.
use Rattle.std.specs.Prelude.{◌≡◌, ◌⊎◌, ◌+◌, ◌*◌, ◌/◌, ◌%◌, ◌<◌, ℕ, List, [], ◌∷◌, Option, Some, None, length, slice_index_or}
use Rattle.std.specs.Int.{byte_at}
use Rattle.line_device.specs.declared.line.Choice.{Choice}
use Rattle.nvm_base.specs.declared.units.Span.{Span}
use Rattle.nvm_model.specs.Blocks.{change, write, write_ranges}
use Rattle.nvm_model.specs.Cell.{Cell, MaySurvive, clear_cell}
use Rattle.nvm_model.specs.Cell.Cell.{Bad, Kept}
use Rattle.nvm_model.specs.Page.{Page, cell_of, change_line, discard}
use Rattle.nvm_model.specs.Storage.{Block, File}
use Rattle.nvm_model.specs.Storage.Block.{Absent, Scarred}
use Rattle.script_text.specs.Action.{Action}
use Rattle.script_text.specs.Action.Action.{BAtomic, BMulti, BDiscard, BScar, VDiscard, FAtomic, FMulti, FDiscard, ClearFile, ClearVolume, Recover, Restart}
use Rattle.script_text.specs.Script.{Input}
use Rattle.script_text.specs.Script.Input.{Skipped, Malformed, Overlong, Asked}
use Rattle.machine_model.specs.Machine.{Machine}
use Rattle.machine_model.specs.OnBlocks.{blocks_from}
use Rattle.machine_model.specs.OnFileActions.{discarded_in, written_together}
use Rattle.machine_model.specs.OnFileErrors.{marked_in}
use Rattle.machine_model.specs.OnPages.{pages_named}
use Rattle.machine_model.specs.Run.{Run, Transcript}
use Rattle.durable.specs.Place.{byte_at_place}
use Rattle.durable.specs.Place.Place.{of_file, of_volume}
use Rattle.durable.specs.Durable.{HasNothing}
use Rattle.durable.specs.Files.{BreaksOff}

-- Ranges of a file or of blocks are written as a whole, pages or blocks are discarded, blocks are scarred, or a bad line is cleared.
pub data WholeWrite : Type 0 where
  atomic : List ℕ → ℕ → List ℕ → WholeWrite
  together : List ℕ → List Span → List ℕ → WholeWrite
  discards : List ℕ → ℕ → ℕ → WholeWrite
  clears : List ℕ → ℕ → WholeWrite
  atomic_blocks : ℕ → List ℕ → WholeWrite
  blocks_together : List Span → List ℕ → WholeWrite
  discards_blocks : ℕ → ℕ → WholeWrite
  scars : List Span → WholeWrite
  discards_volume : ℕ → ℕ → WholeWrite
  clears_volume : ℕ → WholeWrite

abbrev pub command : WholeWrite → Action
command (atomic name offset bytes) = FAtomic name offset bytes
command (together name ranges bytes) = FMulti name ranges bytes
command (discards name page count) = FDiscard name page count
command (clears name offset) = ClearFile name offset
command (atomic_blocks block bytes) = BAtomic block bytes
command (blocks_together ranges bytes) = BMulti ranges bytes
command (discards_blocks block count) = BDiscard block count
command (scars ranges) = BScar ranges
command (discards_volume page count) = VDiscard page count
command (clears_volume offset) = ClearVolume offset

-- what storage has
pub record Held : Type 0 where
  pub blocks : List Block
  pub volume : List Page
  pub files : List File

abbrev pub held_by : Machine → Held
held_by h = record { blocks = h.blocks; volume = h.volume; files = h.files }

-- what it has once the command was done
abbrev pub written : WholeWrite → Held → Held
written (atomic name offset bytes) held = record held { files = written_together name (record { start = offset; len = length bytes } ∷ []) bytes held.files }
written (together name ranges bytes) held = record held { files = written_together name ranges bytes held.files }
written (discards name page count) held = record held { files = discarded_in name page count held.files }
written (clears name offset) held = record held { files = marked_in clear_cell name offset held.files }
written (atomic_blocks block bytes) held = record held { blocks = write block bytes held.blocks }
written (blocks_together ranges bytes) held = record held { blocks = write_ranges ranges bytes held.blocks }
written (discards_blocks block count) held = record held { blocks = change (blocks_from block count) Absent held.blocks }
written (scars ranges) held = record held { blocks = change ranges Scarred held.blocks }
written (discards_volume page count) held = record held { volume = discard page count held.volume }
written (clears_volume offset) held = record held { volume = change_line clear_cell (offset / 64) held.volume }

-- what a restart may show of word w of a line, by its eight bytes: one of the values that the word had since it was last durable, or where
-- bytes are kept, of each byte that of one of them; the last one where that was asked for
abbrev pub MayShow : ℕ → Choice → Option Cell → ℕ → (ℕ → Option ℕ) → Type 0
MayShow unit choice None w byte = (k : ℕ) → k < 8 → byte k ≡ Some 0
MayShow unit choice (Some Bad) w byte = (k : ℕ) → k < 8 → byte k ≡ None
MayShow unit choice (Some (Kept weak words)) w byte =
    (value : ℕ) × MaySurvive unit choice (slice_index_or words w []) value × ((k : ℕ) → k < 8 → byte k ≡ Some (byte_at k value))

-- so of each word of the volume, and of all files
abbrev pub ShowsVolume : Choice → List Page → Machine → Type 0
ShowsVolume choice pages later = (w : ℕ) → MayShow later.unit choice (cell_of pages (w / 8)) (w % 8) (λ k. byte_at_place later (of_volume (8 * w + k)))

abbrev pub ShowsFiles : Choice → List File → Machine → Type 0
ShowsFiles choice files later =
    (name : List ℕ) (w : ℕ) → MayShow later.unit choice (cell_of (pages_named name files) (w / 8)) (w % 8) (λ k. byte_at_place later (of_file name (8 * w + k)))

-- storage has this: exactly, and as a restart may show it, which keeps blocks exactly
pub record Has (held : Held) (later : Machine) : Type 0 where
  pub blocks : later.blocks ≡ held.blocks
  pub volume : later.volume ≡ held.volume
  pub files : later.files ≡ held.files

pub record Shows (choice : Choice) (held : Held) (later : Machine) : Type 0 where
  pub blocks : later.blocks ≡ held.blocks
  pub volume : ShowsVolume choice held.volume later
  pub files : ShowsFiles choice held.files later

-- it has all as before, or all as it was to be, or nothing is there: exactly, and as a restart may show it
abbrev pub HasEither : WholeWrite → Machine → Machine → Type 0
HasEither asked h later = (Has (held_by h) later ⊎ Has (written asked (held_by h)) later) ⊎ HasNothing later

abbrev pub ShowsEither : Choice → WholeWrite → Machine → Machine → Type 0
ShowsEither choice asked h later = (Shows choice (held_by h) later ⊎ Shows choice (written asked (held_by h)) later) ⊎ HasNothing later

-- a command asks for a mount, and none of these does
abbrev pub IsMount : Action → Type 0
IsMount action = ((choice : Choice) × (action ≡ Restart choice)) ⊎ (action ≡ Recover)

abbrev pub NoMountAsked : List Input → Type 0
NoMountAsked [] = Unit {0}
NoMountAsked (Skipped ∷ inputs) = NoMountAsked inputs
NoMountAsked (Malformed ∷ inputs) = NoMountAsked inputs
NoMountAsked (Overlong ∷ inputs) = NoMountAsked inputs
NoMountAsked (Asked action ∷ inputs) = (IsMount action → ⊥) × NoMountAsked inputs

-- it was stopped in h, and others came that ask for no mount
pub record BreaksOffFor (h : Machine) (action : Action) (next : Machine) : Type 0 where
  pub at : Machine
  pub broke : BreaksOff h action at
  pub inputs : List Input
  pub said : Transcript
  pub run : Run at inputs said next
  pub waits : NoMountAsked inputs
