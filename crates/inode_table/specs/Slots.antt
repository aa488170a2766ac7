-- The inodes: for each the file that it is, or none where it is free.
use Rattle.std.specs.Prelude.{◌≡◌, ◌≤◌, ℕ, Bool, true, false, List, Option, Some, None, length, position, count_by, is_some, is_none, option_map, slice_get, slice_index_or}
use Rattle.std.specs.Str.{bytes_eq}
use Rattle.nvm_base.specs.Names.{is_name}
use Rattle.nvm_base.specs.declared.files.FileEntry.{FileEntry}

-- an inode is that file
abbrev pub IsFile : List (Option FileEntry) → ℕ → FileEntry → Type 0
IsFile slots inode file = slice_get slots inode ≡ Some (Some file)

-- an inode is a file of that name
pub record IsNamed (slots : List (Option FileEntry)) (inode : ℕ) (name : List ℕ) : Type 0 where
  pub file : FileEntry
  pub is : IsFile slots inode file
  pub named : file.name ≡ name

-- 64 inodes; each file has a name of its own, and at most 256 pages
pub record IsTable (slots : List (Option FileEntry)) : Type 0 where
  pub all : length slots ≡ 64
  pub name : (inode : ℕ) (file : FileEntry) → IsFile slots inode file → is_name file.name ≡ true
  pub pages : (inode : ℕ) (file : FileEntry) → IsFile slots inode file → file.pages ≤ 256
  pub apart : (i j : ℕ) (a b : FileEntry) → IsFile slots i a → IsFile slots j b → a.name ≡ b.name → i ≡ j

-- an inode may take a name: no other inode has it
abbrev pub MayTake : List (Option FileEntry) → ℕ → List ℕ → Type 0
MayTake slots inode name = (other : ℕ) (file : FileEntry) → IsFile slots other file → file.name ≡ name → other ≡ inode

-- whether a slot has that name
abbrev pub has_name : List ℕ → Option FileEntry → Bool
has_name name None = false
has_name name (Some file) = bytes_eq file.name name

-- the inode of that name
abbrev pub inode_of : List ℕ → List (Option FileEntry) → Option ℕ
inode_of name slots = position (has_name name) slots

-- the lowest inode that is free
abbrev pub free_inode : List (Option FileEntry) → Option ℕ
free_inode slots = position is_none slots

-- how many inodes are files
abbrev pub file_count : List (Option FileEntry) → ℕ
file_count slots = count_by is_some slots

-- the name of an inode
abbrev pub name_at : List (Option FileEntry) → ℕ → Option (List ℕ)
name_at slots inode = option_map (λ file. file.name) (slice_index_or slots inode None)

-- the pages of a slot, none where it is free
abbrev pub pages_of : Option FileEntry → ℕ
pages_of None = 0
pages_of (Some file) = file.pages

-- the pages of an inode
abbrev pub pages_at : List (Option FileEntry) → ℕ → ℕ
pages_at slots inode = pages_of (slice_index_or slots inode None)
