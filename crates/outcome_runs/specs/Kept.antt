-- States that commands keep: storage of which an image can be made.
use Rattle.std.specs.Prelude.{◌≡◌, ◌≤◌, true, List, [], ◌∷◌, length}
use Rattle.nvm_base.specs.Names.{is_name}
use Rattle.word_tables.specs.declared.geometry.Geometry.{Geometry}
use Rattle.word_tables.specs.Bounds.{IsValid}
use Rattle.nvm_model.specs.Listing.{file_name, rises}
use Rattle.nvm_model.specs.Storage.{File}
use Rattle.machine_model.specs.Machine.{Machine}
use Rattle.outcomes.specs.Outcome.{AllHaveValues, HaveValues}
use Rattle.state_images.specs.Files.{all_present}
use Rattle.state_images.specs.Storable.{AreWholeBlocks}

-- each file has a name, and at most 256 pages
abbrev pub HaveNames : List File → Type 0
HaveNames [] = Unit {0}
HaveNames (file ∷ files) = (is_name file.name ≡ true) × (length file.pages ≤ 256) × HaveNames files

-- At most 64 such files in order of name, which use no more pages than there are.
pub record AreListed (geo : Geometry) (files : List File) : Type 0 where
  pub few : length files ≤ 64
  pub each : HaveNames files
  pub in_order : rises file_name files ≡ true
  pub room : length (all_present files) ≤ geo.fpages

-- The sizes are right, blocks have bytes, each word of pages and files has a value, and the files are listed.
pub record IsKept (h : Machine) : Type 0 where
  pub valid : IsValid h.geometry
  pub blocks : AreWholeBlocks h.blocks
  pub values : HaveValues h.volume
  pub file_values : AllHaveValues h.files
  pub listed : AreListed h.geometry h.files
