-- The files that an exploration looks at.
use Rattle.std.specs.Prelude.{◌≡◌, ◌≤◌, Some, List, length}
use Rattle.nvm_base.specs.declared.files.FileEntry.{FileEntry}
use Rattle.nvm_model.specs.Listing.{file_name, file_of}
use Rattle.nvm_model.specs.Storage.{File}

-- a file has at most 256 pages
abbrev pub HasFewPages : FileEntry → Type 0
HasFewPages entry = entry.pages ≤ 256

-- the entry is that of this file, which is the one of its name
pub record IsListed (entry : FileEntry) (file : File) (files : List File) : Type 0 where
  pub found : file_of file_name entry.name files ≡ Some file
  pub size : entry.pages ≡ length file.pages
