-- Which words are no inodes.
use Rattle.std.specs.Prelude.{◌≡◌, ◌≤◌, ◌<◌, ◌/◌, ◌%◌, ◌==◌, ◌&&◌, ◌⊎◌, ℕ, Bool, true, false, List, Option, Some, None, drop, take, position, nat_le, nat_lt, slice_index, if◌then◌else◌}
use Rattle.std.specs.List.{list_any, range_with_len}
use Rattle.nvm_base.specs.declared.files.FileEntry.{FileEntry}
use Rattle.inode_table.specs.Slots.{has_name}
use Rattle.inode_table.specs.Words.{inode_words, slots_of, spelled_name}

-- there is no name, or a slot before has it
abbrev pub is_no_new_name : List (Option FileEntry) → Option (List ℕ) → Bool
is_no_new_name before None = true
is_no_new_name before (Some name) = list_any (has_name name) before

-- an inode in use has no name of its own
abbrev pub is_misnamed : List (Option FileEntry) → ℕ → List ℕ → Bool
is_misnamed before first name = nat_lt 0 first && is_no_new_name before (spelled_name name)

-- word k of an inode is wrong, after these slots
abbrev pub is_wrong_in : List (Option FileEntry) → List ℕ → ℕ → Bool
is_wrong_in before inode k =
    if k == 0 then nat_lt 257 (slice_index inode 0)
    else (if k == 1 then is_misnamed before (slice_index inode 0) (take 4 (drop 1 inode)) else nat_le 5 k && nat_lt 0 (slice_index inode k))

-- the word at an index is wrong
unfoldable pub is_wrong : List ℕ → ℕ → Bool
is_wrong words i = is_wrong_in (take (i / 8) (slots_of words)) (inode_words words (i / 8)) (i % 8)

-- the index of the first wrong word
abbrev pub first_wrong_word : List ℕ → Option ℕ
first_wrong_word words = position (is_wrong words) (range_with_len 0 512)

-- of an inode's words none is wrong
abbrev pub AreRight : List (Option FileEntry) → List ℕ → Type 0
AreRight before inode = (k : ℕ) → k < 8 → is_wrong_in before inode k ≡ false

-- of an inode's words it is the first that is wrong
pub record IsFirstWrong (before : List (Option FileEntry)) (inode : List ℕ) (k : ℕ) : Type 0 where
  pub within : k < 8
  pub wrong : is_wrong_in before inode k ≡ true
  pub right : (j : ℕ) → j < k → is_wrong_in before inode j ≡ false

-- too many pages, or else no name of its own: which of the two words is wrong
abbrev pub IsWrongFile : List (Option FileEntry) → ℕ → List ℕ → ℕ → Type 0
IsWrongFile before first name k =
    ((k ≡ 0) × (257 < first)) ⊎ ((k ≡ 1) × (first ≤ 257) × (is_misnamed before first name ≡ true))

-- a slot that was read: what the words say, and they are right
pub record IsRightFile (before : List (Option FileEntry)) (first : ℕ) (name : List ℕ) : Type 0 where
  pub pages : first ≤ 257
  pub named : is_misnamed before first name ≡ false
