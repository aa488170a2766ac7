-- Reads that are seen.
use Rattle.std.proofs.Common.{◌≡◌, ℕ, List, Some, refl}
use Rattle.std.proofs.lemmas.Slice.Eq.{bytes_eq-Decides}
use Rattle.script_text.specs.Action.Action.{BRead, FRead, VLoad}
use Rattle.reply_text.specs.Answer.Answer.{PoisonFile, PoisonVolume}
use Rattle.outcomes.specs.Pages.{PageReply}
use Rattle.outcomes.specs.Pages.PageReply.{Poison, Refuses, Shows}
use Rattle.outcomes.specs.Blocks.{BlockReply}
use Rattle.outcomes.specs.Blocks.BlockReply.{BadLine, Refuses as RefusesBlocks, Scar, Shows as ShowsBlocks}
use Rattle.outcomes.specs.Seen.{Seen, answer, block_answer, command, page_answer}
use Rattle.outcomes.specs.Seen.Seen.{of_blocks, of_file, of_volume}
use Rattle.exploration.specs.Reads.{seen_of}

seen-page : (start len : ℕ) (reply : PageReply) → seen_of (VLoad start len) (page_answer PoisonVolume reply) ≡ Some (of_volume (record { start = start; len = len; reply = reply }))
seen-page start len (Shows bytes) = refl
seen-page start len (Poison at) = refl
seen-page start len (Refuses why) = refl

seen-blocks : (first count : ℕ) (reply : BlockReply) → seen_of (BRead first count) (block_answer reply) ≡ Some (of_blocks (record { first = first; count = count; reply = reply }))
seen-blocks first count (ShowsBlocks bytes) = refl
seen-blocks first count (Scar block) = refl
seen-blocks first count (BadLine block line) = refl
seen-blocks first count (RefusesBlocks why) = refl

seen-file : (name : List ℕ) (start len : ℕ) (reply : PageReply)
    → seen_of (FRead name start len) (page_answer (PoisonFile name) reply) ≡ Some (of_file (record { name = name; pages = record { start = start; len = len; reply = reply } }))
seen-file name start len (Shows bytes) = refl
seen-file name start len (Poison at) = rw ((bytes_eq-Decides name name).1 refl) refl
seen-file name start len (Refuses why) = refl

-- each read is seen
pub seen-all : (seen : Seen) → seen_of (command seen) (answer seen) ≡ Some seen
seen-all (of_volume r) = seen-page r.start r.len r.reply
seen-all (of_blocks r) = seen-blocks r.first r.count r.reply
seen-all (of_file r) = seen-file r.name r.pages.start r.pages.len r.pages.reply
