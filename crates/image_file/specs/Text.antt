-- Images as bytes.
use Rattle.std.specs.Prelude.{◌≡◌, ◌-◌, ◌<◌, ◌≤◌, ℕ, List, [], ◌∷◌, ◌++◌, length, replicate, slice_index, codes}
use Rattle.std.specs.List.{flat_map, AllByRecursion}
use Rattle.byteorder.specs.Endian.{little_bytes}
use Rattle.line_device.specs.Panel.{IsUnit}
use Rattle.line_device.specs.declared.line.LineState.{LineState}
use Rattle.line_device.specs.declared.line.LineState.TheVariants.{Healthy, Weak, Bad}
use Rattle.word_tables.specs.declared.geometry.Geometry.{Geometry}
use Rattle.word_tables.specs.Layout.{total_lines}
use Rattle.word_tables.specs.Superblock.{superblock_words}
use Rattle.image_file.specs.declared.Image.{Image}
use Rattle.image_file.specs.declared.Units.{Units}
use Rattle.image_file.specs.declared.Units.TheVariants.{Words, All}

-- an image without how much room its list has: the survival unit, and the lines
pub record Snapshot : Type 0 where
  pub unit : ℕ
  pub lines : List LineState

abbrev pub snapshot_of : Image → Snapshot
snapshot_of image = record { unit = image.unit; lines = image.lines.items }

-- the first bytes
abbrev pub image_magic : List ℕ
image_magic = codes "NVMIMG01"

-- a number as eight bytes, the lowest first
abbrev pub number_text : ℕ → List ℕ
number_text n = little_bytes 8 n

-- a line: its tag, and its bytes where it has any
abbrev pub line_text : LineState → List ℕ
line_text (Healthy bytes) = 0 ∷ bytes
line_text (Weak bytes) = 1 ∷ bytes
line_text Bad = 2 ∷ []

-- the fields before the lines: the survival unit, and how many lines there are
abbrev pub image_head : ℕ → ℕ → List ℕ
image_head unit lines = image_magic ++ number_text unit ++ number_text lines

unfoldable pub image_text : Snapshot → List ℕ
image_text m = image_head m.unit (length m.lines) ++ flat_map line_text m.lines

-- a line that may stand in an image: one of 64 bytes, or a bad one
abbrev pub IsImageLine : LineState → Type 0
IsImageLine (Healthy bytes) = length bytes ≡ 64
IsImageLine (Weak bytes) = length bytes ≡ 64
IsImageLine Bad = Unit {0}

-- these are bytes, and so are a line's
abbrev pub AreFileBytes : List ℕ → Type 0
AreFileBytes bytes = (i : ℕ) → slice_index bytes i < 256

abbrev pub IsOfBytes : LineState → Type 0
IsOfBytes (Healthy bytes) = AreFileBytes bytes
IsOfBytes (Weak bytes) = AreFileBytes bytes
IsOfBytes Bad = Unit {0}

-- so many lines may stand in an image
abbrev pub FitImage : ℕ → Type 0
FitImage lines = (1 ≤ lines) × (lines ≤ 118016)

-- what an image may tell
pub record IsSnapshot (m : Snapshot) : Type 0 where
  pub unit : IsUnit m.unit
  pub count : FitImage (length m.lines)
  pub whole : AllByRecursion IsImageLine m.lines

-- the units that a reader takes
abbrev pub TakesUnit : Units → ℕ → Type 0
TakesUnit Words unit = unit ≡ 8
TakesUnit All unit = IsUnit unit

-- the bytes of the first line of a fresh device: the words of its superblock
abbrev pub superblock_text : Geometry → List ℕ
superblock_text geo = flat_map number_text (superblock_words geo)

-- a fresh device of this survival unit: its superblock, and then zeros
abbrev pub fresh_snapshot : ℕ → Geometry → Snapshot
fresh_snapshot unit geo = record {
  unit = unit;
  lines = Healthy (superblock_text geo) ∷ replicate (total_lines geo - 1) (Healthy (replicate 64 0));
}
