-- What is held agrees with a state of the machine.
use Rattle.std.specs.Prelude.{◌≡◌, ◌==◌, ◌^◌, ◌≤◌, ℕ, Bool, true, List, [], ◌∷◌, length, map}
use Rattle.std.specs.List.{list_all, list_any}
use Rattle.nvm_model.specs.Cell.{Cell}
use Rattle.nvm_model.specs.Listing.{AreAlike, file_name, rises}
use Rattle.nvm_model.specs.Storage.{File}
use Rattle.sights.specs.MachineModel.Machine.{Machine}
use Rattle.sights.specs.Outcomes.Files.{FileRead}
use Rattle.sights.specs.Outcomes.Pages.{lines_read}
use Rattle.sights.specs.Seeing.{seen}
use Rattle.cut_places.specs.declared.line.FileLine.{FileLine}
use Rattle.cut_places.specs.Maps.{uncopied}
use Rattle.cut_places.specs.FilesState.{FileState, FilesState, name_seen}

-- these are the lines of f
abbrev pub AreLines : (ℕ → Cell) → List FileLine → Type 0
AreLines f [] = Unit {0}
AreLines f (line ∷ lines) = (line.line ≡ f line.number) × AreLines f lines

-- their numbers
abbrev pub line_numbers : List FileLine → List ℕ
line_numbers lines = map (λ line. line.number) lines

-- a file is held with as many pages as it has, and with lines of these numbers as reads see them
pub record SeesFile (numbers : List ℕ) (kept : FileState) (file : File) : Type 0 where
  pub pages : kept.pages ≡ length file.pages
  pub held : line_numbers kept.lines ≡ numbers
  pub lines : AreLines (seen file.pages) kept.lines

-- So are all files, which are in order of name, and the mappings but for their copies. Handles end at 2 ^ 32.
pub record SeesFiles (held : FilesState) (h : Machine) : Type 0 where
  pub files : AreAlike name_seen file_name (SeesFile held.numbers) held.files h.files
  pub in_order : rises file_name h.files ≡ true
  pub mappings : held.mappings.mappings ≡ map uncopied h.mappings
  pub next : held.mappings.next ≡ h.next_handle
  pub handles : h.next_handle ≤ 2 ^ 32

-- all lines that reads look at are among these numbers
abbrev pub is_held : List ℕ → ℕ → Bool
is_held numbers n = list_any (λ m. m == n) numbers

abbrev pub are_held : List ℕ → List FileRead → Bool
are_held numbers reads = list_all (λ (r : FileRead). list_all (is_held numbers) (lines_read r.pages.start r.pages.len r.pages.reply)) reads
