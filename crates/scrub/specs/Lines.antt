-- Which line of the device is a block's, or a file's.
use Rattle.std.specs.Prelude.{◌≡◌, ◌+◌, ℕ, Some}
use Rattle.word_tables.specs.Layout.{block_line, file_pages, HasLine}
use Rattle.block_map.specs.States.{IsAt}
use Rattle.block_device.specs.Object.{BlocksState}
use Rattle.file_journal.specs.Object.{JournalState}
use Rattle.file_pages.specs.Object.{file_place}

-- line n of the device is this one of the block's eight
pub record IsLineOf (s : BlocksState) (block line n : ℕ) : Type 0 where
  pub unit : ℕ
  pub at : IsAt s.map block unit
  pub is : n ≡ block_line s.geo unit + line

-- line n of the device is this one of the inode's file, and so one of files' pages
pub record IsFileLine (s : JournalState) (inode line n : ℕ) : Type 0 where
  pub at : file_place s inode line ≡ Some n
  pub of : HasLine s.geo file_pages n
