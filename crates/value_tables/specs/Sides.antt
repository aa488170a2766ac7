-- What is looked at where a cut falls: as it is, and as the command that is cut makes it, where some of it may be new.
use Rattle.std.specs.Prelude.{◌≡◌, ◌++◌, ◌/◌, ℕ, Bool, true, false, List, [], ◌∷◌, drop, map, nat_lt, Option, Some, None, slice_get, is_some, if◌then◌else◌}
use Rattle.std.specs.Str.{bytes_eq}
use Rattle.nvm_base.specs.Stock.{Stock}
use Rattle.nvm_model.specs.Cell.{Cell}
use Rattle.nvm_model.specs.Listing.{file_of}
use Rattle.block_sights.specs.Sights.{Sight}
use Rattle.cut_places.specs.SightsSeen.declared.line_seen.LineSeen.{LineSeen}
use Rattle.cut_places.specs.SightsSeen.declared.block_seen.BlockSeen.{BlockSeen}
use Rattle.cut_places.specs.SightsSeen.declared.way.Way.{Way}
use Rattle.cut_places.specs.MachineModel.Meaning.{FilesLeft}
use Rattle.cut_places.specs.FileLines.{line_held}
use Rattle.cut_places.specs.FileMixing.{way_left}
use Rattle.cut_places.specs.SeesFiles.{is_held}
use Rattle.cut_places.specs.FilesState.{FileState, FilesState, name_seen}
use Rattle.value_tables.specs.Left.{FileSide}
use Rattle.value_tables.specs.Left.FileSide.{NoFile, PastEnd, OfLine}

-- lines may be those of f, and blocks: each as it is, or as the one at its place among the new ones too, where there is one
abbrev pub AreLeft : (ℕ → List Cell) → List LineSeen → List LineSeen → Type 0
AreLeft f [] new = Unit {0}
AreLeft f (s ∷ now) [] = (f s.number ≡ s.line ∷ []) × AreLeft f now []
AreLeft f (s ∷ now) (t ∷ new) = (f s.number ≡ s.line ∷ t.line ∷ []) × AreLeft f now new

abbrev pub AreBlocksLeft : (ℕ → List Sight) → List BlockSeen → List BlockSeen → Type 0
AreBlocksLeft f [] new = Unit {0}
AreBlocksLeft f (s ∷ now) [] = (f s.number ≡ s.block ∷ []) × AreBlocksLeft f now []
AreBlocksLeft f (s ∷ now) (t ∷ new) = (f s.number ≡ s.block ∷ t.block ∷ []) × AreBlocksLeft f now new

-- where word p of a file is sought, of what is held of it; of a line that isn't, nothing is known
abbrev pub side_in : Option Cell → List FileSide
side_in None = []
side_in (Some cell) = OfLine cell ∷ []

abbrev pub side_held : ℕ → Option FileState → List FileSide
side_held p None = NoFile ∷ []
side_held p (Some file) = if nat_lt (p / 512) file.pages then side_in (line_held (p / 8) file.lines) else PastEnd ∷ []

-- of the file of a name as it is held, and as it is held of the new ones, where there are such
abbrev pub side_at : FilesState → List ℕ → ℕ → List FileSide
side_at held name p = side_held p (file_of name_seen name held.files)

abbrev pub new_side : Option FilesState → List ℕ → ℕ → List FileSide
new_side None name p = []
new_side (Some held) name p = side_at held name p

-- words of files may be so, where their lines are held
abbrev pub AreFilesLeft : (List ℕ → ℕ → List FileSide) → FilesState → Option FilesState → Type 0
AreFilesLeft f now new = (name : List ℕ) (p : ℕ) → is_held now.numbers (p / 8) ≡ true → f name p ≡ side_at now name p ++ new_side new name p

-- the new files, where a cut may leave some of them
abbrev pub where_files_mixed : FilesLeft → FilesState → Option FilesState
where_files_mixed left new = if is_some (way_left left) then Some new else None

-- the new ones, where a cut may leave some of them
abbrev pub where_mixed : {A : Type 0} → Option Way → List A → List A
where_mixed None new = []
where_mixed (Some way) new = new

-- the line at a place of a list, if there is one, and the block
abbrev pub line_in : Option LineSeen → List Cell
line_in None = []
line_in (Some seen) = seen.line ∷ []

abbrev pub line_at : List LineSeen → ℕ → List Cell
line_at lines i = line_in (slice_get lines i)

abbrev pub block_in : Option BlockSeen → List Sight
block_in None = []
block_in (Some seen) = seen.block ∷ []

abbrev pub block_at : List BlockSeen → ℕ → List Sight
block_at blocks i = block_in (slice_get blocks i)

-- from that place on a list has these
pub record HasRun (numbers : List ℕ) (at : ℕ) (run : List ℕ) : Type 0 where
  pub others : List ℕ
  pub is : drop at numbers ≡ run ++ others

-- lists of bytes, without their spare
abbrev pub texts : List (Stock ℕ) → List (List ℕ)
texts rows = map (λ row. row.items) rows

-- an item is there, and has these bytes
abbrev pub is_row : Option (Stock ℕ) → List ℕ → Bool
is_row None row = false
is_row (Some other) row = bytes_eq other.items row
