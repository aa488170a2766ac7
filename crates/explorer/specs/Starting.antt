-- The state in which an exploration begins.
use Rattle.std.specs.Prelude.{◌≡◌, ◌<◌, ℕ, Bool, true, List, [], ◌∷◌, length, Some, slice_index}
use Rattle.line_device.specs.Word.{word_at}
use Rattle.nvm_model.specs.Cell.Cell.{Kept}
use Rattle.nvm_model.specs.Listing.{file_name, rises}
use Rattle.nvm_model.specs.Numbered.{list_from}
use Rattle.nvm_model.specs.Page.{Page, cell_of}
use Rattle.nvm_model.specs.Storage.{File}
use Rattle.cut_places.specs.MachineModel.Machine.{Machine}
use Rattle.cut_places.specs.Outcomes.Finds.{IsReady}

-- the words of a line of these bytes, each of which has one value
pub record AreOfBytes (words : List (List ℕ)) : Type 0 where
  pub bytes : List ℕ
  pub size : length bytes ≡ 64
  pub small : (k : ℕ) → slice_index bytes k < 256
  pub are : words ≡ list_from (λ w. word_at bytes w ∷ []) 0 8

-- each word of the pages has one value
abbrev pub AreDurable : List Page → Type 0
AreDurable pages = (n : ℕ) (weak : Bool) (words : List (List ℕ)) → cell_of pages n ≡ Some (Kept weak words) → AreOfBytes words

-- and each word of each file
abbrev pub HaveDurable : List File → Type 0
HaveDurable [] = Unit {0}
HaveDurable (file ∷ files) = AreDurable file.pages × HaveDurable files

-- All is mounted and at rest, and what volume and files have is durable, as where an image was opened: the files are in order of name,
-- and nothing is mapped.
pub record Begins (h : Machine) : Type 0 where
  pub ready : IsReady h
  pub durable : AreDurable h.volume
  pub files : HaveDurable h.files
  pub in_order : rises file_name h.files ≡ true
  pub mappings : h.mappings ≡ []
  pub handles : h.next_handle ≡ 0
