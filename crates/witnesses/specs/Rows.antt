-- Worked witnesses: how a cut leaves what is asked, as it is printed.
use Rattle.std.specs.Prelude.{◌≡◌, ◌++◌, ℕ, true, false, List, [], ◌∷◌, codes, map, replicate, Option, Some, None}
use Rattle.std.proofs.Common.{lit<}
use Rattle.nvm_model.specs.Cell.{Cell}
use Rattle.nvm_model.specs.Cell.Cell.{Kept}
use Rattle.block_sights.specs.Sights.Sight.{Whole}
use Rattle.script_text.specs.Action.{Action}
use Rattle.script_text.specs.Action.Action.{BScar, BWrite, PoisonVolume, VDiscard, VDiscardIf, VStore, VSync}
use Rattle.cut_places.specs.MachineModel.WorkedScripts.{small}
use Rattle.cut_places.specs.Outcomes.Blocks.{BlockRead}
use Rattle.cut_places.specs.Outcomes.Blocks.BlockReply.{Shows as ShowsBlocks, Scar}
use Rattle.cut_places.specs.Outcomes.Pages.{PageRead, PageReply}
use Rattle.cut_places.specs.Outcomes.Pages.PageReply.{Shows, Poison}
use Rattle.cut_places.specs.SightsSeen.declared.line_seen.LineSeen.{LineSeen}
use Rattle.cut_places.specs.SightsSeen.declared.block_seen.BlockSeen.{BlockSeen}
use Rattle.witnesses.specs.Blocks.{block_kept}
use Rattle.witnesses.specs.Lines.{line_kept}
use Rattle.witnesses.specs.Texts.{blocks_text, lines_text}

-- what is printed of lines, and of blocks, where a cut falls before a command or inside it
abbrev pub line_witness : Option Action → List PageRead → List LineSeen → List ℕ
line_witness inside reads lines = lines_text reads (map (line_kept small inside reads lines) lines)

abbrev pub block_witness : Option Action → List BlockRead → List BlockSeen → List ℕ
block_witness inside reads units = blocks_text (map (block_kept small inside reads units) units)

-- a line of eight words, of which the first had these values, and the first line of each of the two pages
abbrev pub word_with : List ℕ → Cell
word_with values = Kept false (values ∷ replicate 7 (0 ∷ []))

abbrev pub line_0 : Cell → LineSeen
line_0 cell = record { number = 0; line = cell; reach = lit< tt }

abbrev pub line_1 : Cell → LineSeen
line_1 cell = record { number = 1; line = cell; reach = lit< tt }

abbrev pub line_64 : Cell → LineSeen
line_64 cell = record { number = 64; line = cell; reach = lit< tt }

abbrev pub read_of : ℕ → ℕ → PageReply → PageRead
read_of start len reply = record { start = start; len = len; reply = reply }

-- a flag and a record, both stored to, and a read of the flag without the record
abbrev pub both_stored : List LineSeen
both_stored = line_0 (word_with (0 ∷ 1 ∷ [])) ∷ line_1 (word_with (0 ∷ 0x0707_0707_0707_0707 ∷ [])) ∷ []

abbrev pub flag_alone : List PageRead
flag_alone = read_of 0 1 (Shows (1 ∷ [])) ∷ read_of 64 8 (Shows (replicate 8 0)) ∷ []

-- two pages, each of which holds a byte, and a read of both
abbrev pub two_pages : List LineSeen
two_pages = line_0 (word_with (7 ∷ [])) ∷ line_64 (word_with (8 ∷ [])) ∷ []

abbrev pub both_read : ℕ → ℕ → List PageRead
both_read first second = read_of 0 1 (Shows (first ∷ [])) ∷ read_of 4096 1 (Shows (second ∷ [])) ∷ []

-- blocks 0 and 1, both of zeros
abbrev pub two_blocks : List BlockSeen
two_blocks =
    record { number = 0; block = Whole (replicate 512 0); reach = lit< tt } ∷ record { number = 1; block = Whole (replicate 512 0); reach = lit< tt } ∷ []

pub record WitnessRows : Type 0 where
  -- the flag was written back, and not the record, before the sync of both or inside it
  pub flag_alone_before : line_witness None flag_alone both_stored ≡ codes " | volume 0 01,00*7 | volume 64 00*8"
  pub flag_alone_inside : line_witness (Some (VSync 0 72)) flag_alone both_stored ≡ codes " | volume 0 01,00*7 | volume 64 00*8"
  -- a store that is cut has stored its word
  pub stored : line_witness (Some (VStore 0 (1 ∷ []))) (read_of 0 1 (Shows (1 ∷ [])) ∷ []) (line_0 (word_with (0 ∷ [])) ∷ []) ≡ codes " | volume 0 01,00*7"
  -- each value of a word may be the one that is kept: the first that is read is told
  pub second_of_three : line_witness None (read_of 0 1 (Shows (2 ∷ [])) ∷ []) (line_0 (word_with (0 ∷ 2 ∷ 3 ∷ [])) ∷ []) ≡ codes " | volume 0 02,00*7"
  -- a worn line does not survive the sync, or is not reached by it
  pub worn : line_witness (Some (VSync 0 8)) (read_of 0 8 (Poison 0) ∷ []) (line_0 (Kept true (replicate 8 (5 ∷ []))) ∷ []) ≡ codes " | volume 0 poison"
  pub not_reached : line_witness (Some (VSync 0 8)) (read_of 0 8 (Shows (5 ∷ replicate 7 0)) ∷ []) (line_0 (Kept true (replicate 8 (5 ∷ []))) ∷ [])
      ≡ codes " | volume 0 05,00*7"
  -- pages that are discarded together are both gone, others each for itself
  pub both_gone : line_witness (Some (VDiscard 0 2)) (both_read 0 0) two_pages ≡ codes " | volume 0 00*8 | volume 4096 00*8"
  pub both_there : line_witness (Some (VDiscard 0 2)) (both_read 7 8) two_pages ≡ codes " | volume 0 07,00*7 | volume 4096 08,00*7"
  pub one_gone : line_witness (Some (VDiscardIf 0 2)) (both_read 0 8) two_pages ≡ codes " | volume 0 00*8 | volume 4096 08,00*7"
  -- what a media error marks no cut leaves otherwise
  pub marked : line_witness (Some (PoisonVolume 0)) (read_of 0 1 (Shows (7 ∷ [])) ∷ []) (line_0 (word_with (7 ∷ [])) ∷ []) ≡ []
  -- what could not be otherwise is not told, and a word once
  pub settled : line_witness None (read_of 0 1 (Shows (7 ∷ [])) ∷ []) (line_0 (word_with (7 ∷ [])) ∷ []) ≡ []
  pub once : line_witness None (read_of 0 1 (Shows (1 ∷ [])) ∷ read_of 0 2 (Shows (1 ∷ 0 ∷ [])) ∷ []) (line_0 (word_with (0 ∷ 1 ∷ [])) ∷ line_0 (word_with (0 ∷ 1 ∷ [])) ∷ [])
      ≡ codes " | volume 0 01,00*7"
  -- of two blocks that are written one by one the first is new, the second old
  pub one_of_two : block_witness (Some (BWrite 0 (replicate 1024 1))) (record { first = 0; count = 2; reply = ShowsBlocks (replicate 512 1 ++ replicate 512 0) } ∷ []) two_blocks
      ≡ codes " | block 0 01*512 | block 1 00*512"
  pub scarred : block_witness (Some (BScar (record { start = 1; len = 1 } ∷ []))) (record { first = 0; count = 2; reply = Scar 1 } ∷ []) two_blocks ≡ codes " | block 1 scarred"
