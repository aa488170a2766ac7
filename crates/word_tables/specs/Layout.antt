-- Where everything lies on a medium.
use Rattle.std.specs.Prelude.{◌≡◌, ◌<◌, ◌≤◌, ◌⊎◌, ℕ, ◌+◌, ◌-◌, ◌*◌, ◌/◌, ◌%◌, List, [], ◌∷◌, ◌++◌, sum, take, slice_index, nat_lt, if◌then◌else◌}
use Rattle.nvm_base.specs.declared.units.Span.{Span}
use Rattle.word_tables.specs.declared.geometry.Geometry.{Geometry}

-- the areas of a medium
pub data Area : Type 0 where
  superblock : Area
  block_log : Area
  block_map : Area
  volume_log : Area
  presence : Area
  file_log : Area
  inodes : Area
  page_tables : Area
  spare : Area
  first_range : Area
  blocks : Area
  second_range : Area
  file_pages : Area

-- the number of an area, in the order in which they lie
abbrev pub rank : Area → ℕ
rank superblock = 0
rank block_log = 1
rank block_map = 2
rank volume_log = 3
rank presence = 4
rank file_log = 5
rank inodes = 6
rank page_tables = 7
rank spare = 8
rank first_range = 9
rank blocks = 10
rank second_range = 11
rank file_pages = 12

-- the lines of each area of metadata, in that order, up to the spare ones
abbrev pub table_sizes : Geometry → List ℕ
table_sizes geo = 1 ∷ 17 ∷ (geo.blocks / 8) ∷ 65 ∷ ((geo.vpages + 7) / 8) ∷ 69 ∷ 64 ∷ 2048 ∷ []

-- lines up to the next multiple of 64
abbrev pub up_to_page : ℕ → ℕ
up_to_page lines = (lines + 63) / 64 * 64 - lines

-- the lines of each area of data
abbrev pub data_sizes : Geometry → List ℕ
data_sizes geo = (64 * ((geo.vpages + 1) / 2)) ∷ (8 * (geo.blocks + 64)) ∷ (64 * (geo.vpages / 2)) ∷ (64 * geo.fpages) ∷ []

-- the lines of every area, in the order in which they lie
abbrev pub sizes : Geometry → List ℕ
sizes geo = table_sizes geo ++ up_to_page (sum (table_sizes geo)) ∷ data_sizes geo

-- how many lines an area has
unfoldable pub size : Geometry → Area → ℕ
size geo area = slice_index (sizes geo) (rank area)

-- the first line of an area: each follows the one before
unfoldable pub first_line : Geometry → Area → ℕ
first_line geo area = sum (take (rank area) (sizes geo))

-- all lines
unfoldable pub total_lines : Geometry → ℕ
total_lines geo = sum (sizes geo)

-- the lines of metadata, which come before all data
abbrev pub meta_lines : Geometry → ℕ
meta_lines geo = first_line geo first_range

-- an area, in lines
abbrev pub lines_in : Geometry → Area → Span
lines_in geo area = record { start = first_line geo area; len = size geo area }

-- an area, in bytes
abbrev pub bytes_in : Geometry → Area → Span
bytes_in geo area = record { start = 64 * first_line geo area; len = 64 * size geo area }

-- an area has a line
abbrev pub HasLine : Geometry → Area → ℕ → Type 0
HasLine geo area line = (first_line geo area ≤ line) × (line < first_line geo area + size geo area)

-- the line of a line of the volume: the second range goes on where the first one ends
unfoldable pub volume_line : Geometry → ℕ → ℕ
volume_line geo n =
    if nat_lt n (size geo first_range) then first_line geo first_range + n else first_line geo second_range + (n - size geo first_range)

-- the lines of the volume
abbrev pub IsVolumeLine : Geometry → ℕ → Type 0
IsVolumeLine geo line = HasLine geo first_range line ⊎ HasLine geo second_range line

-- the first line of a physical block
abbrev pub block_line : Geometry → ℕ → ℕ
block_line geo unit = first_line geo blocks + 8 * unit

-- the first line of a physical page
abbrev pub file_line : Geometry → ℕ → ℕ
file_line geo unit = first_line geo file_pages + 64 * unit

-- the areas of logs
abbrev pub IsLogArea : Area → Type 0
IsLogArea block_log = Unit {0}
IsLogArea volume_log = Unit {0}
IsLogArea file_log = Unit {0}
IsLogArea _ = ⊥

-- areas follow each other and end with the medium; those of data begin at whole pages
pub record IsLaidOut (geo : Geometry) : Type 0 where
  pub apart : (a b : Area) → rank a < rank b → first_line geo a + size geo a ≤ first_line geo b
  pub within : (a : Area) → first_line geo a + size geo a ≤ total_lines geo
  pub whole_pages : (a : Area) → rank first_range ≤ rank a → first_line geo a % 64 ≡ 0

-- lines of the volume have lines of their own, in its two areas
pub record IsSpread (geo : Geometry) : Type 0 where
  pub distinct : (m n : ℕ) → volume_line geo m ≡ volume_line geo n → m ≡ n
  pub in_ranges : (n : ℕ) → n < 64 * geo.vpages → IsVolumeLine geo (volume_line geo n)
