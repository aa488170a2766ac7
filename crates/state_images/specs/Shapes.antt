-- Storage as commands keep it: the numbers and names that storage with an image has, with any number of values of each word.
use Rattle.std.specs.Prelude.{◌≡◌, ◌≤◌, ℕ, true, List, [], ◌∷◌, length, Some, slice_get}
use Rattle.nvm_base.specs.Names.{is_name}
use Rattle.word_tables.specs.declared.geometry.Geometry.{Geometry}
use Rattle.nvm_model.specs.Cell.{Cell}
use Rattle.nvm_model.specs.Cell.Cell.{Bad, Kept}
use Rattle.nvm_model.specs.Listing.{file_name, rises}
use Rattle.nvm_model.specs.Page.{Page, cell_of}
use Rattle.nvm_model.specs.Page.Page.{Present}
use Rattle.nvm_model.specs.Storage.{File}
use Rattle.state_images.specs.Files.{all_present}

-- a line is bad, or has eight words
abbrev pub HasEightWords : Cell → Type 0
HasEightWords Bad = Unit {0}
HasEightWords (Kept weak words) = length words ≡ 8

-- each line of pages
abbrev pub HaveEightWords : List Page → Type 0
HaveEightWords pages = (n : ℕ) (cell : Cell) → cell_of pages n ≡ Some cell → HasEightWords cell

-- each page that is there has 64 lines
abbrev pub AreWhole : List Page → Type 0
AreWhole pages = (i : ℕ) (cells : List Cell) → slice_get pages i ≡ Some (Present cells) → length cells ≡ 64

abbrev pub AreFilesWhole : List File → Type 0
AreFilesWhole [] = Unit {0}
AreFilesWhole (file ∷ files) = AreWhole file.pages × AreFilesWhole files

-- a file has a name, at most 256 pages, and such lines
pub record HasFileShape (file : File) : Type 0 where
  pub name : is_name file.name ≡ true
  pub few : length file.pages ≤ 256
  pub words : HaveEightWords file.pages

abbrev pub HaveFileShapes : List File → Type 0
HaveFileShapes [] = Unit {0}
HaveFileShapes (file ∷ files) = HasFileShape file × HaveFileShapes files

-- As many pages as the geometry has.
pub record HasVolumeShape (geo : Geometry) (volume : List Page) : Type 0 where
  pub all : length volume ≡ geo.vpages
  pub words : HaveEightWords volume

-- At most 64 files in order of name, which use no more pages than there are.
pub record HasFilesShape (geo : Geometry) (files : List File) : Type 0 where
  pub few : length files ≤ 64
  pub each : HaveFileShapes files
  pub in_order : rises file_name files ≡ true
  pub room : length (all_present files) ≤ geo.fpages
