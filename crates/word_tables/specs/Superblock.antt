-- The superblock: the words of the first line, which say what a medium is and how large.
use Rattle.std.specs.Prelude.{◌≡◌, ◌<◌, ℕ, ◌&&◌, ◌%◌, ◌==◌, Bool, not, List, [], ◌∷◌, Option, None, nat_le, position, slice_index}
use Rattle.word_tables.specs.declared.geometry.Geometry.{Geometry}
use Rattle.word_tables.specs.Bounds.{IsValid}
use Rattle.word_tables.specs.Layout.{meta_lines, total_lines}

-- the eight bytes NVMPMH01, the lowest first
abbrev pub mark : ℕ
mark = 3544412403637507662

-- the mark, the layout's number, the sizes, the lines of metadata, all lines, and the bytes of a word
abbrev pub superblock_words : Geometry → List ℕ
superblock_words geo = mark ∷ 1 ∷ geo.blocks ∷ geo.vpages ∷ geo.fpages ∷ meta_lines geo ∷ total_lines geo ∷ 8 ∷ []

abbrev pub superblock_word : Geometry → ℕ → ℕ
superblock_word geo w = slice_index (superblock_words geo) w

-- the sizes that words tell
abbrev pub geometry_of : (ℕ → ℕ) → Geometry
geometry_of word = record { blocks = word 2; vpages = word 3; fpages = word 4 }

-- a number within two bounds
abbrev pub is_within : ℕ → ℕ → ℕ → Bool
is_within least most n = nat_le least n && nat_le n most

-- which words are as in the layout, on a device of so many lines
abbrev pub are_right : ℕ → (ℕ → ℕ) → List Bool
are_right lines word =
    (word 0 == mark) ∷ (word 1 == 1) ∷ (is_within 8 4096 (word 2) && word 2 % 8 == 0) ∷ is_within 2 256 (word 3) ∷ is_within 32 1024 (word 4)
    ∷ (word 5 == meta_lines (geometry_of word)) ∷ (word 6 == total_lines (geometry_of word) && word 6 == lines) ∷ (word 7 == 8) ∷ []

-- the lowest word that is not
unfoldable pub first_wrong_word : ℕ → (ℕ → ℕ) → Option ℕ
first_wrong_word lines word = position not (are_right lines word)

-- Words are a superblock of valid sizes, for a medium of so many lines.
pub record IsSuperblock (lines : ℕ) (word : ℕ → ℕ) : Type 0 where
  pub valid : IsValid (geometry_of word)
  pub count : lines ≡ total_lines (geometry_of word)
  pub words : (w : ℕ) → w < 8 → word w ≡ superblock_word (geometry_of word) w

-- the superblock of these sizes tells them, and is right on a medium of all its lines
pub record TellsItsSizes (geo : Geometry) : Type 0 where
  pub sizes : geometry_of (superblock_word geo) ≡ geo
  pub right : first_wrong_word (total_lines geo) (superblock_word geo) ≡ None
