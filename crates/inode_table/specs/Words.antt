-- Inodes as words. An inode has eight: 0 where it is free, else its pages and one; four of its name; three that are 0.
use Rattle.std.specs.Prelude.{◌+◌, ◌-◌, ◌*◌, ◌==◌, ℕ, List, [], ◌∷◌, Option, None, drop, take, map, flat_map, option_map, slice_index, if◌then◌else◌}
use Rattle.std.specs.List.{range_with_len}
use Rattle.byteorder.specs.Endian.{little_bytes, little_number}
use Rattle.nvm_base.specs.Names.{name_in, padded}
use Rattle.nvm_base.specs.declared.files.FileEntry.{FileEntry}

-- the bytes of words, the lowest of each first
unfoldable pub bytes_in : List ℕ → List ℕ
bytes_in words = flat_map (little_bytes 8) words

-- word k of a name, padded by zeros
unfoldable pub name_word : List ℕ → ℕ → ℕ
name_word name k = little_number 8 (drop (8 * k) (padded name))

-- the words of a name
abbrev pub name_words : List ℕ → List ℕ
name_words name = name_word name 0 ∷ name_word name 1 ∷ name_word name 2 ∷ name_word name 3 ∷ []

-- the words of a file's inode, but for the three that are 0
abbrev pub words_of : FileEntry → List ℕ
words_of file = (file.pages + 1) ∷ name_words file.name

-- the name that four words spell
abbrev pub spelled_name : List ℕ → Option (List ℕ)
spelled_name words = name_in (bytes_in words)

-- the slot of an inode's first word and those of its name
abbrev pub slot_from : ℕ → List ℕ → Option FileEntry
slot_from first name = if first == 0 then None else option_map (λ text. record { name = text; pages = first - 1 }) (spelled_name name)

-- the slot of an inode's words
abbrev pub slot_of : List ℕ → Option FileEntry
slot_of inode = slot_from (slice_index inode 0) (take 4 (drop 1 inode))

-- the words of one inode
abbrev pub inode_words : List ℕ → ℕ → List ℕ
inode_words words inode = take 8 (drop (8 * inode) words)

-- the slots of 64 inodes
unfoldable pub slots_of : List ℕ → List (Option FileEntry)
slots_of words = map (λ inode. slot_of (inode_words words inode)) (range_with_len 0 64)
