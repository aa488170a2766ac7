-- Worked lines and blocks: whether they may be read as is asked.
use Rattle.std.specs.Prelude.{◌≡◌, ℕ, true, false, List, [], ◌∷◌, replicate}
use Rattle.nvm_model.specs.Cell.Cell.{Bad, Kept}
use Rattle.block_sights.specs.Sights.{zeros}
use Rattle.block_sights.specs.Sights.Sight.{BadLine, Scar}
use Rattle.outcomes.specs.Blocks.{BlockRead, BlockReply}
use Rattle.outcomes.specs.Blocks.BlockReply.{Scar as AsksScar, BadLine as AsksBadLine}
use Rattle.outcomes.specs.Pages.{PageRead, PageReply}
use Rattle.outcomes.specs.Pages.PageReply.{Shows, Poison}
use Rattle.asked_reads.specs.Fitting.{cell_fits, sight_fits}

-- one byte at the head of the storage, and all of its first line
abbrev pub byte_read : PageReply → List PageRead
byte_read reply = record { start = 0; len = 1; reply = reply } ∷ []

abbrev pub line_read : PageReply → List PageRead
line_read reply = record { start = 0; len = 64; reply = reply } ∷ []

-- a line whose first word was 1, and then 2
abbrev pub stored_twice : List (List ℕ)
stored_twice = (1 ∷ 2 ∷ []) ∷ replicate 7 (0 ∷ [])

-- a read of three blocks from block 4 on
abbrev pub of_three : BlockReply → List BlockRead
of_three reply = record { first = 4; count = 3; reply = reply } ∷ []

pub record FittingRows : Type 0 where
  -- each value of the word may be the one that is kept, and no other
  pub first : cell_fits (byte_read (Shows (1 ∷ []))) 0 (Kept false stored_twice) ≡ true
  pub last : cell_fits (byte_read (Shows (2 ∷ []))) 0 (Kept false stored_twice) ≡ true
  pub other : cell_fits (byte_read (Shows (3 ∷ []))) 0 (Kept false stored_twice) ≡ false
  -- a bad line is named, and shows nothing
  pub named : cell_fits (line_read (Poison 0)) 0 Bad ≡ true
  pub good : cell_fits (line_read (Poison 0)) 0 (Kept false stored_twice) ≡ false
  pub hidden : cell_fits (byte_read (Shows (1 ∷ []))) 0 Bad ≡ false
  -- the lowest block that can't be read is the one that is named
  pub scar : sight_fits (of_three (AsksScar 5)) 5 Scar ≡ true
  pub unscarred : sight_fits (of_three (AsksScar 5)) 5 zeros ≡ false
  pub lower : sight_fits (of_three (AsksScar 5)) 4 Scar ≡ false
  pub behind : sight_fits (of_three (AsksScar 5)) 6 (BadLine 3) ≡ true
  pub bad : sight_fits (of_three (AsksBadLine 5 2)) 5 (BadLine 2) ≡ true
  pub other_line : sight_fits (of_three (AsksBadLine 5 2)) 5 (BadLine 3) ≡ false
