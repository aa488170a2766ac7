-- Files as the machine sees them: what commands make of one, and how many of their lines are bad.
use Rattle.std.specs.Prelude.{◌≡◌, ◌-◌, ◌++◌, ℕ, List, length, take, replicate, sum_by}
use Rattle.nvm_base.specs.declared.files.FileEntry.{FileEntry}
use Rattle.nvm_model.specs.Listing.{AreAlike, file_name}
use Rattle.nvm_model.specs.Page.{Page, bad_lines}
use Rattle.nvm_model.specs.Page.Page.{Absent}
use Rattle.nvm_model.specs.Storage.{File}

-- a new file: all holes
abbrev pub new_file : List ℕ → ℕ → File
new_file name pages = record { name = name; pages = replicate pages Absent }

-- a file under another name
abbrev pub with_name : List ℕ → File → File
with_name name file = record file { name = name }

-- a file of so many pages: those that it keeps, and then holes
abbrev pub with_pages : ℕ → File → File
with_pages pages file = record file { pages = take pages file.pages ++ replicate (pages - length file.pages) Absent }

-- a file whose pages became what f makes of them
abbrev pub on_pages : (List Page → List Page) → File → File
on_pages f file = record file { pages = f file.pages }

-- its name and page count
abbrev pub entry_of_file : File → FileEntry
entry_of_file file = record { name = file.name; pages = length file.pages }

-- how many lines of files are bad
abbrev pub bad_lines_of : File → ℕ
bad_lines_of file = bad_lines file.pages

abbrev pub bad_file_lines : List File → ℕ
bad_file_lines files = sum_by bad_lines_of files

-- what is left of a file: of that of the name some pages that R leaves of its own, of any other all as it was
pub record FileLeft (name : List ℕ) (R : List Page → List Page → Type 0) (old new : File) : Type 0 where
  pub here : old.name ≡ name → R old.pages new.pages
  pub beside : (old.name ≡ name → ⊥) → new.pages ≡ old.pages

-- and of all of them, which keep their names
abbrev pub OneFileLeft : List ℕ → (List Page → List Page → Type 0) → List File → List File → Type 0
OneFileLeft name R files left = AreAlike file_name file_name (FileLeft name R) files left
