-- The words of the tables, and where each lies: place 8 * n + k is word k of line n.
use Rattle.std.specs.Prelude.{◌≡◌, ℕ, ◌+◌, ◌*◌, ◌/◌, ◌<◌}
use Rattle.word_tables.specs.declared.geometry.Geometry.{Geometry}
use Rattle.word_tables.specs.Layout.{Area, block_map, presence, inodes, page_tables, first_line, meta_lines, HasLine, IsLogArea}

-- the words of the tables, by what they are about
pub data Word : Type 0 where
  of_block : ℕ → Word
  of_volume_page : ℕ → Word
  of_inode : ℕ → ℕ → Word
  of_file_page : ℕ → ℕ → Word

-- the geometry has that word
abbrev pub HasWord : Geometry → Word → Type 0
HasWord geo (of_block block) = block < geo.blocks
HasWord geo (of_volume_page page) = page < geo.vpages
HasWord geo (of_inode inode word) = (inode < 64) × (word < 8)
HasWord geo (of_file_page inode page) = (inode < 64) × (page < 256)

-- the area of a word
abbrev pub area_of : Word → Area
area_of (of_block block) = block_map
area_of (of_volume_page page) = presence
area_of (of_inode inode word) = inodes
area_of (of_file_page inode page) = page_tables

-- which word of its area it is
abbrev pub index_of : Word → ℕ
index_of (of_block block) = block
index_of (of_volume_page page) = page
index_of (of_inode inode word) = 8 * inode + word
index_of (of_file_page inode page) = 256 * inode + page

-- its place
abbrev pub place : Geometry → Word → ℕ
place geo word = 8 * first_line geo (area_of word) + index_of word

-- each word has a place of its own, in its area of the metadata, and no log has it
pub record HasPlaces (geo : Geometry) : Type 0 where
  pub distinct : (v w : Word) → HasWord geo v → HasWord geo w → place geo v ≡ place geo w → v ≡ w
  pub in_area : (w : Word) → HasWord geo w → HasLine geo (area_of w) (place geo w / 8)
  pub in_metadata : (w : Word) → HasWord geo w → (0 < place geo w / 8) × (place geo w / 8 < meta_lines geo)
  pub in_no_log : (w : Word) (log : Area) → HasWord geo w → IsLogArea log → ¬ HasLine geo log (place geo w / 8)
