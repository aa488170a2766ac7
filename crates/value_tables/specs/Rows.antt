-- The rows of a table: one for each word, of the volume or a file, and each block that a read touches, or one for a read that is refused.
use Rattle.std.specs.Prelude.{◌+◌, ◌*◌, ◌/◌, ◌%◌, ◌++◌, ℕ, suc, List, [], ◌∷◌, map, codes, decimal, Option, Some, None, if◌then◌else◌}
use Rattle.std.specs.List.{list_any, range_with_len}
use Rattle.std.specs.Int.{w64, to_le_bytes}
use Rattle.nvm_base.specs.Data.{data_text}
use Rattle.nvm_base.specs.Units.{units_of}
use Rattle.word_tables.specs.declared.geometry.Geometry.{Geometry}
use Rattle.nvm_model.specs.Cell.{Cell}
use Rattle.block_sights.specs.Sights.{Sight}
use Rattle.cut_places.specs.SightsSeen.BlockTelling.{sight_text}
use Rattle.reply_text.specs.declared.reply.Why.{Why}
use Rattle.reply_text.specs.Answer.{answer_line}
use Rattle.reply_text.specs.Answer.Answer.{Refused}
use Rattle.cut_places.specs.MachineModel.Meaning.{most_refusal}
use Rattle.cut_places.specs.MachineModel.Machine.{Machine}
use Rattle.cut_places.specs.AskedReads.declared.read.Read.{Read}
use Rattle.cut_places.specs.AskedReads.declared.read.Read.TheVariants as reads
use Rattle.value_tables.specs.declared.shown.Shown.{Shown}
use Rattle.value_tables.specs.declared.shown.Shown.TheVariants.{Word, Block, FileWord, Refuses}
use Rattle.value_tables.specs.Left.{FileSide, Found, found}
use Rattle.value_tables.specs.Values.{block_values, cells_of, is_missing, is_past, may_be_bad, word_values}

-- why a read is refused, whatever is stored
abbrev pub read_refusal : Geometry → Read → Option Why
read_refusal geo (reads.Volume start len) = most_refusal 65536 (4096 * geo.vpages) start len
read_refusal geo (reads.Blocks first count) = most_refusal 128 geo.blocks first count
read_refusal geo (reads.File name start len) = most_refusal 65536 (start + len) start len

-- the words or the blocks that it touches
abbrev pub touched : Read → List Shown
touched (reads.Volume start len) = let words = units_of 8 (record { start = start; len = len }) in map Word (range_with_len words.start words.len)
touched (reads.Blocks first count) = map Block (range_with_len first count)
touched (reads.File name start len) = let words = units_of 8 (record { start = start; len = len }) in map (FileWord name) (range_with_len words.start words.len)

-- what its rows show
abbrev pub unless_refused : Option Why → List Shown → List Shown
unless_refused None shown = shown
unless_refused (Some why) shown = Refuses why ∷ []

abbrev pub rows_of_read : Geometry → Read → List Shown
rows_of_read geo read = unless_refused (read_refusal geo read) (touched read)

-- values of words behind one another, each as its bytes, the lowest first
abbrev pub words_text : List ℕ → List ℕ
words_text [] = []
words_text (v ∷ values) = 32 ∷ data_text (to_le_bytes w64 v) ++ words_text values

-- what may be read of a word of these lines, and of a block that may be seen so
abbrev pub word_text : ℕ → List Cell → List ℕ
word_text w cells = (if may_be_bad cells then codes " poison" else []) ++ words_text (word_values w cells)

-- the same of a word of a file, and that there may be no such file, or one that ends before it
abbrev pub sides_text : ℕ → List FileSide → List ℕ
sides_text w sides =
    (if list_any is_missing sides then codes " missing" else []) ++ ((if list_any is_past sides then codes " range" else []) ++ word_text w (cells_of sides))

abbrev pub sights_text : List Sight → List ℕ
sights_text [] = []
sights_text (sight ∷ sights) = sight_text sight ++ sights_text sights

-- a row of read k, with its line feed, where this may be found
abbrev pub row_text : Found → ℕ → Shown → List ℕ
row_text may k (Word p) = decimal k ++ (codes " volume " ++ (decimal (8 * p) ++ (word_text (p % 8) (may.lines (p / 8)) ++ 10 ∷ [])))
row_text may k (Block b) = decimal k ++ (codes " block " ++ (decimal b ++ (sights_text (block_values (may.blocks b)) ++ 10 ∷ [])))
row_text may k (FileWord name p) =
    decimal k ++ (codes " file " ++ (name ++ (32 ∷ (decimal (8 * p) ++ (sides_text (p % 8) (may.files name p) ++ 10 ∷ [])))))
row_text may k (Refuses why) = decimal k ++ (32 ∷ answer_line (Refused why))

-- the rows of reads, of which the first has number k
abbrev pub rows_text : Found → ℕ → Geometry → List Read → List (List ℕ)
rows_text may k geo [] = []
rows_text may k geo (read ∷ reads) = map (row_text may k) (rows_of_read geo read) ++ rows_text may (suc k) geo reads

-- those of a look, where the power goes in this state
abbrev pub rows_at : List Read → Machine → List (List ℕ)
rows_at look off = rows_text (found off) 1 off.geometry look
