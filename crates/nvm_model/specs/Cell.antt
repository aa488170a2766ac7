-- A line of storage as the machine sees it.
use Rattle.std.specs.Prelude.{◌≡◌, ◌+◌, ◌*◌, ◌/◌, ◌%◌, ◌&&◌, ℕ, Bool, true, false, List, [], ◌∷◌, length, map, replicate, nat_le, nat_lt, Option, Some, option_map, position, slice_get, slice_index_or, if◌then◌else◌}
use Rattle.std.specs.Int.{byte_at}
use Rattle.std.specs.List.{range_with_len}
use Rattle.nvm_base.specs.Units.{units_of}
use Rattle.line_device.specs.History.{latest, newest, IsIn, MayKeep}
use Rattle.line_device.specs.Medium.{Medium, word_stored}
use Rattle.line_device.specs.History.{WordWritesBack}
use Rattle.line_device.specs.Panel.{Image}
use Rattle.line_device.specs.declared.line.Choice.{Choice}
use Rattle.line_device.specs.declared.line.Choice.TheVariants.{Firsts, Lasts}
use Rattle.nvm_model.specs.Numbered.{map_from, list_from}

-- a bad line; or whether the line is weak, and the histories of its eight words
pub data Cell : Type 0 where
  Bad : Cell
  Kept : Bool → List (List ℕ) → Cell

-- a line of zeros, healthy and durable
abbrev pub zero_cell : Cell
zero_cell = Kept false (replicate 8 (0 ∷ []))

-- the span touches line n, or holds all of it
abbrev pub touches : ℕ → ℕ → ℕ → Bool
touches start len n = nat_lt start (64 * n + 64) && nat_lt (64 * n) (start + len)

abbrev pub covers : ℕ → ℕ → ℕ → Bool
covers start len n = nat_le start (64 * n) && nat_le (64 * n + 64) (start + len)

-- the lowest line that the span touches and that passes
abbrev pub lowest_touched : (ℕ → Bool) → ℕ → ℕ → Option ℕ
lowest_touched passes start len =
    let lines = units_of 64 (record { start = start; len = len }) in
    option_map (λ k. lines.start + k) (position passes (range_with_len lines.start lines.len))

-- Line n once bytes are put at an offset of the storage. A bad line that they cover is healthy again.
abbrev pub put_cell : ℕ → List ℕ → ℕ → Cell → Cell
put_cell at bytes n Bad =
    if covers at (length bytes) n then Kept false (map_from (word_stored at bytes) (8 * n) (replicate 8 (0 ∷ []))) else Bad
put_cell at bytes n (Kept weak words) = Kept weak (map_from (word_stored at bytes) (8 * n) words)

-- The line shows what is put over it: it has eight words, or it is bad and the bytes cover it.
abbrev pub TakesPut : ℕ → ℕ → ℕ → Cell → Type 0
TakesPut at len n Bad = covers at len n ≡ true
TakesPut at len n (Kept weak words) = length words ≡ 8

-- a line made durable, which a weak line does not survive
abbrev pub flush_cell : Cell → Cell
flush_cell Bad = Bad
flush_cell (Kept true words) = Bad
flush_cell (Kept false words) = Kept false (map latest words)

-- a line that a media error took
abbrev pub lose_cell : Cell → Cell
lose_cell cell = Bad

-- a line that is weak from now on; a bad one stays bad
abbrev pub weaken_cell : Cell → Cell
weaken_cell Bad = Bad
weaken_cell (Kept weak words) = Kept true words

-- a bad line made one of zeros; any other stays
abbrev pub clear_cell : Cell → Cell
clear_cell Bad = zero_cell
clear_cell (Kept weak words) = Kept weak words

-- line n once the span is made durable
abbrev pub persist_cell : ℕ → ℕ → ℕ → Cell → Cell
persist_cell start len n cell = if touches start len n then flush_cell cell else cell

-- byte i of the line as last stored
abbrev pub cell_byte : Cell → ℕ → ℕ
cell_byte Bad i = 0
cell_byte (Kept weak words) i = byte_at (i % 8) (newest (slice_index_or words (i / 8) []))

-- line n as a restart left it
abbrev pub read_cell : Image → ℕ → Cell
read_cell image n = if image.is_bad n then Bad else Kept (image.is_weak n) (list_from (λ p. image.word p ∷ []) (8 * n) 8)

-- What a restart of this unit may leave of a word: one of its values, or byte by byte. Where first values were asked for it is one of its
-- values on any unit; where last ones were asked for it is the last.
pub record MaySurvive (unit : ℕ) (choice : Choice) (history : List ℕ) (value : ℕ) : Type 0 where
  pub was : MayKeep unit value history
  pub last : choice ≡ Lasts → value ≡ newest history
  pub whole : choice ≡ Firsts → IsIn value history

-- what a restart may leave of line n
abbrev pub KeepsCell : Choice → Image → ℕ → Cell → Type 0
KeepsCell choice image n Bad = image.is_bad n ≡ true
KeepsCell choice image n (Kept weak words) =
    (image.is_bad n ≡ false) × (image.is_weak n ≡ weak)
    × ((w : ℕ) (history : List ℕ) → slice_get words w ≡ Some history → MaySurvive image.unit choice history (image.word (8 * n + w)))

-- The device's line stands for the cell: bad or weak where the cell is, and each word's history is that of the cell but for
-- values that were written back or forgotten.
abbrev pub CellStands : Medium → ℕ → Cell → Type 0
CellStands m line Bad = m.is_bad line ≡ true
CellStands m line (Kept weak words) =
    (m.is_bad line ≡ false) × (m.is_weak line ≡ weak) × (length words ≡ 8)
    × ((w : ℕ) (history : List ℕ) → slice_get words w ≡ Some history → WordWritesBack false history (m.history (8 * line + w)))
