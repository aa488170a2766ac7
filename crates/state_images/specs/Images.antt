-- The image of blocks, pages of the volume and files.
use Rattle.std.specs.Prelude.{◌+◌, ℕ, List, [], ◌∷◌}
use Rattle.line_device.specs.Panel.{Image}
use Rattle.word_tables.specs.declared.geometry.Geometry.{Geometry}
use Rattle.word_tables.specs.Layout.{first_range, size, sizes, total_lines}
use Rattle.word_tables.specs.Superblock.{superblock_word}
use Rattle.nvm_model.specs.Cell.{Cell, zero_cell}
use Rattle.nvm_model.specs.Page.{Page}
use Rattle.nvm_model.specs.Storage.{Block, File}
use Rattle.state_images.specs.Cells.{line_of_blocks, line_of_pages, map_word_of, presence_word_of}
use Rattle.state_images.specs.Files.{all_present, entry_word_of, inode_word_of, line_of_units, unit_files_of}
use Rattle.state_images.specs.Lines.{image_of_lines, laid, words_line}

-- zeros, as in a log: its gate is 0
abbrev pub zeros : ℕ → Cell
zeros i = zero_cell

-- the lines of each area, in the order in which they lie
abbrev pub areas_of : Geometry → List Block → List Page → List File → List (ℕ → Cell)
areas_of geo blocks volume files =
    words_line (superblock_word geo) ∷ zeros ∷ words_line (map_word_of blocks) ∷ zeros ∷ words_line (presence_word_of volume) ∷ zeros
    ∷ words_line (inode_word_of (unit_files_of files)) ∷ words_line (entry_word_of (unit_files_of files)) ∷ zeros ∷ line_of_pages volume
    ∷ line_of_blocks blocks ∷ (λ i. line_of_pages volume (size geo first_range + i)) ∷ line_of_units (all_present files) ∷ []

-- line n
unfoldable pub line_of : Geometry → List Block → List Page → List File → ℕ → Cell
line_of geo blocks volume files n = laid (sizes geo) (areas_of geo blocks volume files) n

-- The image: superblock and tables, logs with nothing in them, block k on unit k, the volume in its two ranges, and the pages of
-- files on units one after the other.
abbrev pub image_of : Geometry → List Block → List Page → List File → Image
image_of geo blocks volume files = image_of_lines (total_lines geo) (line_of geo blocks volume files)
