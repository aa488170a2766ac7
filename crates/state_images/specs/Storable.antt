-- Which storage has an image.
use Rattle.std.specs.Prelude.{◌≡◌, ◌≤◌, ◌<◌, ℕ, true, List, [], ◌∷◌, length, Option, Some, None}
use Rattle.nvm_base.specs.Names.{is_name}
use Rattle.word_tables.specs.declared.geometry.Geometry.{Geometry}
use Rattle.nvm_model.specs.Cell.{Cell}
use Rattle.nvm_model.specs.Cell.Cell.{Bad, Kept}
use Rattle.nvm_model.specs.Listing.{file_name, rises}
use Rattle.nvm_model.specs.Page.{Page}
use Rattle.nvm_model.specs.Page.Page.{Absent, Present}
use Rattle.nvm_model.specs.Storage.{Block, File}
use Rattle.nvm_model.specs.Storage.Block.{Absent as AbsentBlock, Scarred, Data}
use Rattle.state_images.specs.Files.{all_present}

-- a word has one value, and each of a line's
abbrev pub HasOneValue : List ℕ → Type 0
HasOneValue [] = ⊥
HasOneValue (v ∷ []) = Unit {0}
HasOneValue (v ∷ w ∷ values) = ⊥

abbrev pub HaveOneValue : List (List ℕ) → Type 0
HaveOneValue [] = Unit {0}
HaveOneValue (word ∷ words) = HasOneValue word × HaveOneValue words

-- a line is bad, or has eight words of one value
abbrev pub IsSettled : Cell → Type 0
IsSettled Bad = Unit {0}
IsSettled (Kept weak words) = (length words ≡ 8) × HaveOneValue words

abbrev pub AreSettled : List Cell → Type 0
AreSettled [] = Unit {0}
AreSettled (cell ∷ cells) = IsSettled cell × AreSettled cells

-- pages that are there have 64 such lines
abbrev pub IsPageSettled : Page → Type 0
IsPageSettled Absent = Unit {0}
IsPageSettled (Present cells) = (length cells ≡ 64) × AreSettled cells

abbrev pub ArePagesSettled : List Page → Type 0
ArePagesSettled [] = Unit {0}
ArePagesSettled (page ∷ pages) = IsPageSettled page × ArePagesSettled pages

-- each is a byte
abbrev pub AreBytes : List ℕ → Type 0
AreBytes [] = Unit {0}
AreBytes (byte ∷ bytes) = (byte < 256) × AreBytes bytes

-- a line of a block is bad, or has 64 bytes
abbrev pub IsLineOfBytes : Option (List ℕ) → Type 0
IsLineOfBytes None = Unit {0}
IsLineOfBytes (Some bytes) = (length bytes ≡ 64) × AreBytes bytes

abbrev pub AreLinesOfBytes : List (Option (List ℕ)) → Type 0
AreLinesOfBytes [] = Unit {0}
AreLinesOfBytes (line ∷ lines) = IsLineOfBytes line × AreLinesOfBytes lines

-- a block that has lines has eight
abbrev pub IsWholeBlock : Block → Type 0
IsWholeBlock AbsentBlock = Unit {0}
IsWholeBlock Scarred = Unit {0}
IsWholeBlock (Data lines) = (length lines ≡ 8) × AreLinesOfBytes lines

abbrev pub AreWholeBlocks : List Block → Type 0
AreWholeBlocks [] = Unit {0}
AreWholeBlocks (block ∷ blocks) = IsWholeBlock block × AreWholeBlocks blocks

-- a file has a name, and at most 256 pages
pub record IsStorableFile (file : File) : Type 0 where
  pub name : is_name file.name ≡ true
  pub few : length file.pages ≤ 256
  pub pages : ArePagesSettled file.pages

abbrev pub AreStorableFiles : List File → Type 0
AreStorableFiles [] = Unit {0}
AreStorableFiles (file ∷ files) = IsStorableFile file × AreStorableFiles files

-- As many blocks as the geometry has.
pub record AreStorableBlocks (geo : Geometry) (blocks : List Block) : Type 0 where
  pub all : length blocks ≡ geo.blocks
  pub whole : AreWholeBlocks blocks

-- As many pages of the volume.
pub record IsStorableVolume (geo : Geometry) (volume : List Page) : Type 0 where
  pub all : length volume ≡ geo.vpages
  pub pages : ArePagesSettled volume

-- At most 64 files in order of name, which use no more pages than there are.
pub record IsStorableFiles (geo : Geometry) (files : List File) : Type 0 where
  pub few : length files ≤ 64
  pub each : AreStorableFiles files
  pub in_order : rises file_name files ≡ true
  pub room : length (all_present files) ≤ geo.fpages

-- All of it.
pub record IsStorable (geo : Geometry) (blocks : List Block) (volume : List Page) (files : List File) : Type 0 where
  pub of_blocks : AreStorableBlocks geo blocks
  pub of_volume : IsStorableVolume geo volume
  pub of_files : IsStorableFiles geo files
