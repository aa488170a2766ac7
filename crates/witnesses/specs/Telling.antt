-- What is kept, reported as reads of a look: each line, of the volume or of a file, by one read of all its bytes, each block by one of its own;
-- and of a file that exists its length by reads of no byte, the first of which ends where it does, and the second one past its end.
use Rattle.std.specs.Prelude.{◌+◌, ◌*◌, ◌/◌, ◌%◌, ◌++◌, ℕ, List, [], ◌∷◌, flat_map, map, Option, Some, None, slice_index}
use Rattle.std.specs.Int.{byte_at}
use Rattle.nvm_model.specs.Numbered.{list_from}
use Rattle.block_sights.specs.Sights.{Sight}
use Rattle.block_sights.specs.Sights.Sight.{Whole, Scar, BadLine}
use Rattle.reply_text.specs.declared.reply.Why.TheVariants as because
use Rattle.cut_places.specs.Outcomes.Pages.{PageRead, PageReply}
use Rattle.cut_places.specs.Outcomes.Pages.PageReply.{Shows, Poison, Refuses}
use Rattle.cut_places.specs.Outcomes.Blocks.{BlockRead, BlockReply}
use Rattle.cut_places.specs.Outcomes.Blocks.BlockReply.{Shows as ShowsBlock, Scar as TellsScar, BadLine as TellsBadLine}
use Rattle.cut_places.specs.Outcomes.Files.{FileRead}
use Rattle.cut_places.specs.Outcomes.Seen.{Seen}
use Rattle.cut_places.specs.Outcomes.Seen.Seen.{of_blocks, of_file, of_volume}
use Rattle.witnesses.specs.declared.line_kept.LineLeft.{LineLeft}
use Rattle.witnesses.specs.declared.line_kept.LineLeft.TheVariants as left
use Rattle.witnesses.specs.declared.line_kept.LineKept.{LineKept}
use Rattle.witnesses.specs.declared.block_kept.BlockKept.{BlockKept}
use Rattle.witnesses.specs.declared.file_kept.FileLineKept.{FileLineKept}
use Rattle.witnesses.specs.declared.size_kept.SizeKept.{SizeKept}
use Rattle.witnesses.specs.declared.kept.Kept.{Kept}

-- the 64 bytes of eight words
abbrev pub bytes_of_words : List ℕ → List ℕ
bytes_of_words words = list_from (λ i. byte_at (i % 8) (slice_index words (i / 8))) 0 64

-- what a read of line n is answered, and of block b
abbrev pub line_reply : ℕ → LineLeft → PageReply
line_reply n left.Bad = Poison (64 * n)
line_reply n (left.Words words) = Shows (bytes_of_words words)

abbrev pub block_reply : ℕ → Sight → BlockReply
block_reply b (Whole bytes) = ShowsBlock bytes
block_reply b Scar = TellsScar b
block_reply b (BadLine line) = TellsBadLine b line

abbrev pub line_told : LineKept → PageRead
line_told kept = record { start = 64 * kept.number; len = 64; reply = line_reply kept.number kept.left }

abbrev pub block_told : BlockKept → BlockRead
block_told kept = record { first = kept.number; count = 1; reply = block_reply kept.number kept.block }

abbrev pub file_told : FileLineKept → FileRead
file_told kept = record { name = kept.name; pages = record { start = 64 * kept.number; len = 64; reply = line_reply kept.number kept.left } }

abbrev pub pages_told : List ℕ → Option ℕ → List FileRead
pages_told name None = record { name = name; pages = record { start = 0; len = 0; reply = Refuses because.Missing } } ∷ []
pages_told name (Some pages) =
    record { name = name; pages = record { start = 4096 * pages; len = 0; reply = Refuses because.Length } }
    ∷ record { name = name; pages = record { start = 4096 * pages + 1; len = 0; reply = Refuses because.Range } } ∷ []

abbrev pub size_told : SizeKept → List FileRead
size_told kept = pages_told kept.name kept.pages

abbrev pub told_of_files : Kept → List FileRead
told_of_files kept = map file_told kept.files.items ++ flat_map size_told kept.sizes.items

abbrev pub told : Kept → List Seen
told kept = map (λ k. of_volume (line_told k)) kept.lines.items ++ (map (λ k. of_blocks (block_told k)) kept.blocks.items ++ map of_file (told_of_files kept))
