-- What a line of the volume, a block, or a word of a file may be where the power goes: as it was, and as the interrupted action makes it.
use Rattle.std.specs.Prelude.{◌/◌, ℕ, List, [], ◌∷◌, length, nat_lt, Option, Some, None, if◌then◌else◌}
use Rattle.word_tables.specs.declared.geometry.Geometry.{Geometry}
use Rattle.nvm_model.specs.Blocks.{nth}
use Rattle.nvm_model.specs.Cell.{Cell}
use Rattle.nvm_model.specs.Listing.{file_name, file_of}
use Rattle.nvm_model.specs.Page.{Page}
use Rattle.nvm_model.specs.Storage.{Block, File, Mapping}
use Rattle.block_sights.specs.Sights.{Sight, sight}
use Rattle.script_text.specs.Action.{Action}
use Rattle.cut_places.specs.MachineModel.Machine.{Machine}
use Rattle.cut_places.specs.MachineModel.Commands.{meaning}
use Rattle.cut_places.specs.MachineModel.Meaning.{BlocksLeft, FilesLeft, VolumeLeft}
use Rattle.cut_places.specs.MachineModel.Meaning.BlocksLeft.{Same, Either, Mixed}
use Rattle.cut_places.specs.MachineModel.Meaning.FilesLeft.{Unchanged, OldOrNew, StoredInPart, SyncedInPart}
use Rattle.cut_places.specs.MachineModel.Meaning.VolumeLeft.{Kept, PartStored, PartSynced, AllOrNone, PageByPage}
use Rattle.cut_places.specs.SightsSeen.Seeing.{seen}

-- where a word of a file is sought: there is no such file, it ends before the word, or a line has it
pub data FileSide : Type 0 where
  NoFile : FileSide
  PastEnd : FileSide
  OfLine : Cell → FileSide

-- word p of a file, and of the file of a name among these
abbrev pub side_of : ℕ → Option File → FileSide
side_of p None = NoFile
side_of p (Some file) = if nat_lt (p / 512) (length file.pages) then OfLine (seen file.pages (p / 8)) else PastEnd

abbrev pub file_side : List ℕ → ℕ → List File → FileSide
file_side name p files = side_of p (file_of file_name name files)

-- the old one, and the new one where some are old and some new
abbrev pub of_lines : VolumeLeft → Cell → Cell → List Cell
of_lines Kept old new = old ∷ []
of_lines (PartStored offset bytes) old new = old ∷ new ∷ []
of_lines (PartSynced offset len) old new = old ∷ new ∷ []
of_lines AllOrNone old new = old ∷ new ∷ []
of_lines PageByPage old new = old ∷ new ∷ []

abbrev pub of_blocks : BlocksLeft → Sight → Sight → List Sight
of_blocks Same old new = old ∷ []
of_blocks Either old new = old ∷ new ∷ []
of_blocks Mixed old new = old ∷ new ∷ []

abbrev pub of_files : FilesLeft → FileSide → FileSide → List FileSide
of_files Unchanged old new = old ∷ []
of_files OldOrNew old new = old ∷ new ∷ []
of_files (StoredInPart name offset bytes) old new = old ∷ new ∷ []
of_files (SyncedInPart name spans) old new = old ∷ new ∷ []

-- line n of these pages, where this action was interrupted or none, block b, and word p of the file of a name
abbrev pub lines_left : Geometry → Option Action → List Page → ℕ → List Cell
lines_left geo None pages n = seen pages n ∷ []
lines_left geo (Some action) pages n = of_lines ((meaning action).volume_left geo) (seen pages n) (seen ((meaning action).volume geo pages) n)

abbrev pub blocks_left : Option Action → List Block → ℕ → List Sight
blocks_left None blocks b = sight (nth blocks b) ∷ []
blocks_left (Some action) blocks b = of_blocks (meaning action).blocks_left (sight (nth blocks b)) (sight (nth ((meaning action).blocks blocks) b))

abbrev pub files_left : List Mapping → Option Action → List File → List ℕ → ℕ → List FileSide
files_left mappings None files name p = file_side name p files ∷ []
files_left mappings (Some action) files name p =
    of_files ((meaning action).files_left mappings) (file_side name p files) (file_side name p ((meaning action).files mappings files))

-- those of a state
abbrev pub line_left : Machine → ℕ → List Cell
line_left off n = lines_left off.geometry off.interrupted off.volume n

abbrev pub block_left : Machine → ℕ → List Sight
block_left off b = blocks_left off.interrupted off.blocks b

abbrev pub file_left : Machine → List ℕ → ℕ → List FileSide
file_left off name p = files_left off.mappings off.interrupted off.files name p

-- what may be found of lines of the volume, of blocks, and of words of files; and in a state
pub record Found : Type 0 where
  pub lines : ℕ → List Cell
  pub blocks : ℕ → List Sight
  pub files : List ℕ → ℕ → List FileSide

abbrev pub found : Machine → Found
found off = record { lines = line_left off; blocks = block_left off; files = file_left off }
