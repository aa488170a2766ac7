-- The lines and blocks that a look's reads touch.
use Rattle.std.specs.Prelude.{◌≡◌, ◌++◌, ℕ, true, List, [], ◌∷◌, Option, Some, None}
use Rattle.std.specs.List.{list_all, range_with_len}
use Rattle.nvm_base.specs.Units.{units_of}
use Rattle.word_tables.specs.declared.geometry.Geometry.{Geometry}
use Rattle.reply_text.specs.declared.reply.Why.{Why}
use Rattle.cut_places.specs.declared.sight.Sight.{Sight}
use Rattle.cut_places.specs.SightsSeen.Units.{block_numbers, line_numbers}
use Rattle.cut_places.specs.AskedReads.declared.read.Read.{Read}
use Rattle.cut_places.specs.AskedReads.declared.read.Read.TheVariants as reads
use Rattle.cut_places.specs.SeesFiles.{is_held}
use Rattle.value_tables.specs.Rows.{read_refusal}

-- none, where a read is refused
abbrev pub none_refused : Option Why → List ℕ → List ℕ
none_refused None numbers = numbers
none_refused (Some why) numbers = []

-- the lines of so many bytes from an offset on
abbrev pub lines_spanned : ℕ → ℕ → List ℕ
lines_spanned start len = let lines = units_of 64 (record { start = start; len = len }) in range_with_len lines.start lines.len

-- the lines of the volume that a read touches, the blocks, and the lines of its file
abbrev pub lines_touched : Read → List ℕ
lines_touched (reads.Volume start len) = lines_spanned start len
lines_touched (reads.Blocks first count) = []
lines_touched (reads.File name start len) = []

abbrev pub blocks_touched : Read → List ℕ
blocks_touched (reads.Volume start len) = []
blocks_touched (reads.Blocks first count) = range_with_len first count
blocks_touched (reads.File name start len) = []

abbrev pub file_lines_touched : Read → List ℕ
file_lines_touched (reads.Volume start len) = []
file_lines_touched (reads.Blocks first count) = []
file_lines_touched (reads.File name start len) = lines_spanned start len

-- those of a look, read by read
abbrev pub lines_looked_at : Geometry → List Read → List ℕ
lines_looked_at geo [] = []
lines_looked_at geo (read ∷ look) = none_refused (read_refusal geo read) (lines_touched read) ++ lines_looked_at geo look

abbrev pub blocks_looked_at : Geometry → List Read → List ℕ
blocks_looked_at geo [] = []
blocks_looked_at geo (read ∷ look) = none_refused (read_refusal geo read) (blocks_touched read) ++ blocks_looked_at geo look

abbrev pub file_lines_looked_at : Geometry → List Read → List ℕ
file_lines_looked_at geo [] = []
file_lines_looked_at geo (read ∷ look) = none_refused (read_refusal geo read) (file_lines_touched read) ++ file_lines_looked_at geo look

-- it is of these lines and blocks, and of no other; and those of files are held
pub record IsOf (sight : Sight) (geo : Geometry) (look : List Read) : Type 0 where
  pub lines : line_numbers sight.lines.items ≡ lines_looked_at geo look
  pub blocks : block_numbers sight.blocks.items ≡ blocks_looked_at geo look
  pub files : list_all (is_held sight.files.numbers) (file_lines_looked_at geo look) ≡ true
