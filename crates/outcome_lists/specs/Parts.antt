-- The reads of a look in parts: each is of one word, of the volume or of a file, or of one block.
use Rattle.std.specs.Prelude.{◌≡◌, ◌==◌, ◌+◌, ◌-◌, ◌*◌, ◌%◌, ◌++◌, ◌&&◌, ◌||◌, ℕ, Bool, true, false, List, [], ◌∷◌, Option, Some, None, map, nat_le, nat_lt, if◌then◌else◌}
use Rattle.std.specs.List.{AllByRecursion, range_with_len}
use Rattle.std.specs.Str.{bytes_eq}
use Rattle.nvm_base.specs.Units.{units_of}
use Rattle.nvm_base.specs.declared.units.Span.{Span}
use Rattle.nvm_model.specs.Listing.{is_before}
use Rattle.word_tables.specs.declared.geometry.Geometry.{Geometry}
use Rattle.reply_text.specs.declared.reply.Why.{Why}
use Rattle.explorer.specs.AskedReads.declared.read.Read.{Read}
use Rattle.explorer.specs.AskedReads.declared.read.Read.TheVariants.{Volume, Blocks, File}
use Rattle.explorer.specs.ValueTables.Rows.{read_refusal}

-- of so many bytes of a file those that some file may have: none is longer than 4 GiB
abbrev pub len_in_files : ℕ → ℕ → ℕ
len_in_files start len = if nat_le (start + len) 4294967296 then len else 4294967296 - start

-- the words or the blocks that a read touches: the first, and how many
abbrev pub reach : Read → Span
reach (Volume start len) = units_of 8 (record { start = start; len = len })
reach (Blocks first count) = record { start = first; len = count }
reach (File name start len) = units_of 8 (record { start = start; len = len_in_files start len })

-- the part that is of number n
abbrev pub part : Read → ℕ → Read
part (Volume start len) n = Volume (8 * n) 8
part (Blocks first count) n = Blocks n 1
part (File name start len) n = File name (8 * n) 8

abbrev pub parts_read : Read → List Read
parts_read read = map (part read) (range_with_len (reach read).start (reach read).len)

-- none, where the read is refused whatever is stored
abbrev pub unless_refused : Option Why → List Read → List Read
unless_refused None parts = parts
unless_refused (Some why) parts = []

-- those of reads, one after the other
abbrev pub parts_of_reads : Geometry → List Read → List Read
parts_of_reads geo [] = []
parts_of_reads geo (read ∷ look) = unless_refused (read_refusal geo read) (parts_read read) ++ parts_of_reads geo look

-- two parts are of one word, or of one block
abbrev pub same_part : Read → Read → Bool
same_part (Volume start len) (Volume other others) = start == other
same_part (Volume start len) (Blocks first count) = false
same_part (Volume start len) (File name other others) = false
same_part (Blocks first count) (Volume start len) = false
same_part (Blocks first count) (Blocks other others) = first == other
same_part (Blocks first count) (File name start len) = false
same_part (File name start len) (Volume other others) = false
same_part (File name start len) (Blocks first count) = false
same_part (File name start len) (File text other others) = bytes_eq name text && (start == other)

-- in which order parts stand: words of the volume, blocks, then words of files by their names, each by its address
abbrev pub comes_before : Read → Read → Bool
comes_before (Volume start len) (Volume other others) = nat_lt start other
comes_before (Volume start len) (Blocks first count) = true
comes_before (Volume start len) (File name other others) = true
comes_before (Blocks first count) (Volume start len) = false
comes_before (Blocks first count) (Blocks other others) = nat_lt first other
comes_before (Blocks first count) (File name start len) = true
comes_before (File name start len) (Volume other others) = false
comes_before (File name start len) (Blocks first count) = false
comes_before (File name start len) (File text other others) = is_before name text || (bytes_eq name text && nat_lt start other)

-- one part more, in that order, unless it is there
abbrev pub with_part : List Read → Read → List Read
with_part [] p = p ∷ []
with_part (q ∷ qs) p = if comes_before q p then q ∷ with_part qs p else if same_part q p then q ∷ qs else p ∷ q ∷ qs

abbrev pub with_parts : List Read → List Read → List Read
with_parts parts [] = parts
with_parts parts (p ∷ ps) = with_parts (with_part parts p) ps

-- those of a look, each once
abbrev pub parts_of : Geometry → List Read → List Read
parts_of geo look = with_parts [] (parts_of_reads geo look)

-- each comes before all that stand behind it
abbrev pub AreInOrder : List Read → Type 0
AreInOrder [] = Unit {0}
AreInOrder (p ∷ ps) = AllByRecursion (λ q. comes_before p q ≡ true) ps × AreInOrder ps

-- a read is of one word or one block, and is not refused
abbrev pub IsWordOrBlock : Read → Type 0
IsWordOrBlock (Volume start len) = (start % 8 ≡ 0) × (len ≡ 8)
IsWordOrBlock (Blocks first count) = count ≡ 1
IsWordOrBlock (File name start len) = (start % 8 ≡ 0) × (len ≡ 8)

pub record IsPart (geo : Geometry) (read : Read) : Type 0 where
  pub taken : read_refusal geo read ≡ None
  pub one : IsWordOrBlock read

abbrev pub AreParts : Geometry → List Read → Type 0
AreParts geo reads = AllByRecursion (IsPart geo) reads
