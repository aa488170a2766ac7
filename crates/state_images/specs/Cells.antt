-- The lines that storage lies on, by the number of a line, a word or a block in it.
use Rattle.std.specs.Prelude.{◌+◌, ◌/◌, ◌%◌, ℕ, List, [], Option, Some, None, slice_get, slice_index_or}
use Rattle.line_device.specs.Word.{word_at}
use Rattle.nvm_model.specs.Cell.{Cell, zero_cell}
use Rattle.nvm_model.specs.Cell.Cell.{Bad}
use Rattle.nvm_model.specs.Page.{Page, cell_of}
use Rattle.nvm_model.specs.Page.Page.{Absent, Present}
use Rattle.nvm_model.specs.Storage.{Block}
use Rattle.nvm_model.specs.Storage.Block.{Absent as AbsentBlock, Scarred, Data}
use Rattle.state_images.specs.Lines.{words_line}

-- a line, zeros where there is none
abbrev pub cell_or_zeros : Option Cell → Cell
cell_or_zeros None = zero_cell
cell_or_zeros (Some cell) = cell

-- line n of pages
abbrev pub line_of_pages : List Page → ℕ → Cell
line_of_pages pages n = cell_or_zeros (cell_of pages n)

-- the word that says whether a page is there
abbrev pub page_word : Option Page → ℕ
page_word None = 0
page_word (Some Absent) = 0
page_word (Some (Present cells)) = 1

abbrev pub presence_word_of : List Page → ℕ → ℕ
presence_word_of pages i = page_word (slice_get pages i)

-- the word of a block of that number: its unit is the one of the same number
abbrev pub block_word : ℕ → Option Block → ℕ
block_word b None = 0
block_word b (Some AbsentBlock) = 0
block_word b (Some Scarred) = 1
block_word b (Some (Data lines)) = b + 2

abbrev pub map_word_of : List Block → ℕ → ℕ
map_word_of blocks b = block_word b (slice_get blocks b)

-- a line of bytes, which may be bad
abbrev pub line_of_bytes : Option (List ℕ) → Cell
line_of_bytes None = Bad
line_of_bytes (Some bytes) = words_line (word_at bytes) 0

-- a line of a block
abbrev pub line_in_block : Option Block → ℕ → Cell
line_in_block None i = zero_cell
line_in_block (Some AbsentBlock) i = zero_cell
line_in_block (Some Scarred) i = zero_cell
line_in_block (Some (Data lines)) i = line_of_bytes (slice_index_or lines i (Some []))

-- line n of units, each with the lines of the block of its number
abbrev pub line_of_blocks : List Block → ℕ → Cell
line_of_blocks blocks n = line_in_block (slice_get blocks (n / 8)) (n % 8)
