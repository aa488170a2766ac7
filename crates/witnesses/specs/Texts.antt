-- What is kept, as it is printed behind an answer.
use Rattle.std.specs.Prelude.{◌+◌, ◌*◌, ◌==◌, ◌&&◌, ℕ, Bool, false, List, [], ◌∷◌, ◌++◌, codes, decimal, flat_map, Option, Some, None, slice_index, slice_index_or, if◌then◌else◌}
use Rattle.std.specs.Int.{to_le_bytes, w64}
use Rattle.std.specs.List.{list_any, range_with_len}
use Rattle.std.specs.Str.{bytes_eq}
use Rattle.nvm_base.specs.Data.{data_text}
use Rattle.nvm_model.specs.Numbered.{is_among}
use Rattle.block_sights.specs.Sights.{Sight}
use Rattle.cut_places.specs.SightsSeen.BlockTelling.{sight_text}
use Rattle.cut_places.specs.Outcomes.Files.{FileRead, reads_of}
use Rattle.cut_places.specs.Outcomes.Pages.{PageRead, PageReply}
use Rattle.cut_places.specs.Outcomes.Pages.PageReply.{Shows, Poison, Refuses}
use Rattle.witnesses.specs.declared.line_kept.LineLeft.{LineLeft}
use Rattle.witnesses.specs.declared.line_kept.LineLeft.TheVariants as left
use Rattle.witnesses.specs.declared.line_kept.LineKept.{LineKept}
use Rattle.witnesses.specs.declared.block_kept.BlockKept.{BlockKept}
use Rattle.witnesses.specs.declared.file_kept.FileLineKept.{FileLineKept}
use Rattle.witnesses.specs.declared.size_kept.SizeKept.{SizeKept}
use Rattle.witnesses.specs.declared.kept.Kept.{Kept}
use Rattle.witnesses.specs.Asked.{file_head, volume_head}

-- a read that is not refused has a byte of word p
abbrev pub asks_word : ℕ → ℕ → ℕ → PageReply → Bool
asks_word p start len (Shows bytes) = list_any (is_among start len) (range_with_len (8 * p) 8)
asks_word p start len (Poison at) = list_any (is_among start len) (range_with_len (8 * p) 8)
asks_word p start len (Refuses why) = false

-- some read does
abbrev pub is_asked : List PageRead → ℕ → Bool
is_asked reads p = list_any (λ (r : PageRead). asks_word p r.start r.len r.reply) reads

-- word w of line n: where it begins, and its eight bytes; of which storage is said before
unfoldable pub word_text : List ℕ → ℕ → ℕ → ℕ → List ℕ
word_text head n value w = head ++ (decimal (64 * n + 8 * w) ++ (32 ∷ data_text (to_le_bytes w64 value)))

-- where it is asked and could be otherwise
abbrev pub asked_text : List ℕ → List PageRead → ℕ → List ℕ → ℕ → Bool → List ℕ
asked_text head reads n words w free = if free && is_asked reads (8 * n + w) then word_text head n (slice_index words w) w else []

-- a bad line: where it begins
unfoldable pub bad_text : List ℕ → ℕ → List ℕ
bad_text head n = head ++ (decimal (64 * n) ++ codes " poison")

-- a line: that it is bad, where it could be otherwise, or each of those words
abbrev pub left_text : List ℕ → List PageRead → ℕ → List Bool → LineLeft → List ℕ
left_text head reads n free left.Bad = if slice_index_or free 0 false then bad_text head n else []
left_text head reads n free (left.Words words) =
    flat_map (λ w. asked_text head reads n words w (slice_index_or free w false)) (range_with_len 0 8)

abbrev pub line_text : List PageRead → LineKept → List ℕ
line_text reads kept = left_text volume_head reads kept.number kept.free kept.left

abbrev pub file_line_text : List FileRead → FileLineKept → List ℕ
file_line_text reads kept = left_text (file_head kept.name) (reads_of kept.name reads) kept.number kept.free kept.left

unfoldable pub whole_text : ℕ → Sight → List ℕ
whole_text b sight = codes " | block " ++ (decimal b ++ sight_text sight)

-- where it could be otherwise
abbrev pub block_text : BlockKept → List ℕ
block_text kept = if kept.free then whole_text kept.number kept.block else []

-- a file that is not there, or how many pages it has
unfoldable pub pages_text : List ℕ → Option ℕ → List ℕ
pages_text name None = file_head name ++ codes "missing"
pages_text name (Some pages) = file_head name ++ (codes "pages " ++ decimal pages)

-- where it could be otherwise
abbrev pub size_text : SizeKept → List ℕ
size_text kept = if kept.free then pages_text kept.name kept.pages else []

-- a text, if none of the same came before
abbrev pub unless_told : {A : Type 0} → (A → A → Bool) → (A → List ℕ) → List A → A → List ℕ
unless_told same text before x = if list_any (λ y. same y x) before then [] else text x

-- texts one behind the other, of the same the first one; some came before
abbrev pub texts_once : {A : Type 0} → (A → A → Bool) → (A → List ℕ) → List A → List A → List ℕ
texts_once same text before [] = []
texts_once same text before (x ∷ xs) = unless_told same text before x ++ texts_once same text (before ++ x ∷ []) xs

-- two lines of one number, two blocks of one, two of one file, and two lines of one number and file
abbrev pub same_line : LineKept → LineKept → Bool
same_line a b = a.number == b.number

abbrev pub same_block : BlockKept → BlockKept → Bool
same_block a b = a.number == b.number

abbrev pub same_size : SizeKept → SizeKept → Bool
same_size a b = bytes_eq a.name b.name

abbrev pub same_file_line : FileLineKept → FileLineKept → Bool
same_file_line a b = (a.number == b.number) && bytes_eq a.name b.name

-- all that is kept: lines, then blocks, then whether files are there and how long, and then their lines
abbrev pub lines_text : List PageRead → List LineKept → List ℕ
lines_text reads lines = texts_once same_line (line_text reads) [] lines

abbrev pub blocks_text : List BlockKept → List ℕ
blocks_text units = texts_once same_block block_text [] units

abbrev pub sizes_text : List SizeKept → List ℕ
sizes_text sizes = texts_once same_size size_text [] sizes

abbrev pub files_text : List FileRead → List FileLineKept → List ℕ
files_text reads lines = texts_once same_file_line (file_line_text reads) [] lines

abbrev pub kept_text : List PageRead → List FileRead → Kept → List ℕ
kept_text volume files kept = lines_text volume kept.lines.items ++ (blocks_text kept.blocks.items ++ (sizes_text kept.sizes.items ++ files_text files kept.files.items))
