-- The reads that a question asks for, as the laws speak of them.
use Rattle.std.specs.Prelude.{List, map}
use Rattle.outcomes.specs.Pages.{PageRead, PageReply}
use Rattle.outcomes.specs.Pages.PageReply.{Shows, Poison, Refuses}
use Rattle.outcomes.specs.Blocks.{BlockRead, BlockReply}
use Rattle.outcomes.specs.Files.{FileRead}
use Rattle.outcomes.specs.Blocks.BlockReply.{Shows as ShowsBlocks, Scar, BadLine, Refuses as RefusesBlocks}
use Rattle.asked_reads.specs.declared.reads.PageReply.{PageReply as AskedOfPages}
use Rattle.asked_reads.specs.declared.reads.PageReply.TheVariants as asked_pages
use Rattle.asked_reads.specs.declared.reads.PageRead.{PageRead as AskedPages}
use Rattle.asked_reads.specs.declared.reads.BlockReply.{BlockReply as AskedOfBlocks}
use Rattle.asked_reads.specs.declared.reads.BlockReply.TheVariants as asked_blocks
use Rattle.asked_reads.specs.declared.reads.BlockRead.{BlockRead as AskedBlocks}
use Rattle.asked_reads.specs.declared.reads.FileRead.{FileRead as AskedFile}

abbrev pub page_reply : AskedOfPages → PageReply
page_reply (asked_pages.Shows bytes) = Shows bytes.items
page_reply (asked_pages.Poison at) = Poison at
page_reply (asked_pages.Refuses why) = Refuses why

abbrev pub page_read : AskedPages → PageRead
page_read r = record { start = r.start; len = r.len; reply = page_reply r.reply }

abbrev pub block_reply : AskedOfBlocks → BlockReply
block_reply (asked_blocks.Shows bytes) = ShowsBlocks bytes.items
block_reply (asked_blocks.Scar block) = Scar block
block_reply (asked_blocks.BadLine block line) = BadLine block line
block_reply (asked_blocks.Refuses why) = RefusesBlocks why

abbrev pub block_read : AskedBlocks → BlockRead
block_read r = record { first = r.first; count = r.count; reply = block_reply r.reply }

abbrev pub file_read : AskedFile → FileRead
file_read r = record { name = r.name; pages = page_read r.pages }

-- all of them
abbrev pub pages_asked : List AskedPages → List PageRead
pages_asked reads = map page_read reads

abbrev pub blocks_asked : List AskedBlocks → List BlockRead
blocks_asked reads = map block_read reads

abbrev pub file_reads_asked : List AskedFile → List FileRead
file_reads_asked reads = map file_read reads
