-- Words that hold slots.
use Rattle.std.specs.Prelude.{◌≡◌, ◌≤◌, ◌<◌, ◌+◌, ℕ, List, Option, Some, None, drop, take, slice_index, slice_index_or}
use Rattle.nvm_base.specs.declared.files.FileEntry.{FileEntry}
use Rattle.inode_table.specs.Words.{inode_words, spelled_name}

-- the first word of a slot
abbrev pub first_word : Option FileEntry → ℕ
first_word None = 0
first_word (Some file) = file.pages + 1

-- a name that was spelled is the slot's; a free one has any
abbrev pub IsNameOf : Option (List ℕ) → Option FileEntry → Type 0
IsNameOf name None = Unit {0}
IsNameOf name (Some file) = name ≡ Some file.name

-- an inode's words hold that slot
pub record HoldsSlot (inode : List ℕ) (slot : Option FileEntry) : Type 0 where
  pub first : slice_index inode 0 ≡ first_word slot
  pub name : IsNameOf (spelled_name (take 4 (drop 1 inode))) slot
  pub rest : (k : ℕ) → 5 ≤ k → k < 8 → slice_index inode k ≡ 0

-- words hold 64 slots
abbrev pub HoldsSlots : List ℕ → List (Option FileEntry) → Type 0
HoldsSlots words slots = (inode : ℕ) → inode < 64 → HoldsSlot (inode_words words inode) (slice_index_or slots inode None)
