-- What a program reads once the power is back, and what it sees: the commands, their answers, and whether a state may show it.
use Rattle.std.specs.Prelude.{◌*◌, ◌&&◌, ℕ, Bool, List, [], ◌∷◌, map}
use Rattle.std.specs.List.{list_all}
use Rattle.script_text.specs.Action.{Action}
use Rattle.script_text.specs.Action.Action.{BRead, FRead, VLoad}
use Rattle.script_text.specs.Script.{Input}
use Rattle.script_text.specs.Script.Input.{Asked}
use Rattle.reply_text.specs.Answer.{Answer}
use Rattle.reply_text.specs.Answer.Answer.{Bytes, PoisonBlock, PoisonFile, PoisonVolume, Refused, Scarred}
use Rattle.machine_model.specs.Machine.{Machine}
use Rattle.outcomes.specs.Pages.{PageRead, PageReply, all_lines_read, is_reply, line_fits}
use Rattle.outcomes.specs.Pages.PageReply.{Shows, Poison, Refuses}
use Rattle.outcomes.specs.Blocks.{BlockRead, BlockReply, all_numbers_read, block_fits, is_block_reply}
use Rattle.outcomes.specs.Blocks.BlockReply.{Shows as ShowsBlocks, Scar, BadLine, Refuses as RefusesBlocks}
use Rattle.outcomes.specs.Files.{FileRead}
use Rattle.outcomes.specs.Left.{blocks_may_pass, files_may_pass, volume_may_pass}

-- a read of the volume, of blocks or of a file, with its reply
pub data Seen : Type 0 where
  of_volume : PageRead → Seen
  of_blocks : BlockRead → Seen
  of_file : FileRead → Seen

abbrev pub command : Seen → Action
command (of_volume r) = VLoad r.start r.len
command (of_blocks r) = BRead r.first r.count
command (of_file r) = FRead r.name r.pages.start r.pages.len

-- how a reply is answered, where a bad line is named so
abbrev pub page_answer : (ℕ → Answer) → PageReply → Answer
page_answer names (Shows bytes) = Bytes bytes
page_answer names (Poison at) = names at
page_answer names (Refuses why) = Refused why

abbrev pub block_answer : BlockReply → Answer
block_answer (ShowsBlocks bytes) = Bytes bytes
block_answer (Scar b) = Scarred b
block_answer (BadLine b line) = PoisonBlock b line
block_answer (RefusesBlocks why) = Refused why

abbrev pub answer : Seen → Answer
answer (of_volume r) = page_answer PoisonVolume r.reply
answer (of_blocks r) = block_answer r.reply
answer (of_file r) = page_answer (PoisonFile r.name) r.pages.reply

-- the commands of a look, and their answers
abbrev pub asked : List Seen → List Input
asked look = map (λ seen. Asked (command seen)) look

abbrev pub answers : List Seen → List Answer
answers look = map answer look

-- the reads of the volume among them, those of blocks, and those of files
abbrev pub volume_reads : List Seen → List PageRead
volume_reads [] = []
volume_reads (of_volume r ∷ look) = r ∷ volume_reads look
volume_reads (of_blocks r ∷ look) = volume_reads look
volume_reads (of_file r ∷ look) = volume_reads look

abbrev pub block_reads : List Seen → List BlockRead
block_reads [] = []
block_reads (of_volume r ∷ look) = block_reads look
block_reads (of_blocks r ∷ look) = r ∷ block_reads look
block_reads (of_file r ∷ look) = block_reads look

abbrev pub file_reads : List Seen → List FileRead
file_reads [] = []
file_reads (of_volume r ∷ look) = file_reads look
file_reads (of_blocks r ∷ look) = file_reads look
file_reads (of_file r ∷ look) = r ∷ file_reads look

-- A state without power, in which an action may be interrupted, may show these reads of the volume, of blocks and of files once it
-- is restarted.
abbrev pub volume_may_show : Machine → List PageRead → Bool
volume_may_show off reads =
    list_all (is_reply (4096 * off.geometry.vpages)) reads && volume_may_pass off.geometry off.interrupted (line_fits reads) off.volume (all_lines_read reads)

abbrev pub blocks_may_show : Machine → List BlockRead → Bool
blocks_may_show off reads =
    list_all (is_block_reply off.geometry.blocks) reads && blocks_may_pass off.interrupted (block_fits reads) off.blocks (all_numbers_read reads)

abbrev pub files_may_show : Machine → List FileRead → Bool
files_may_show off reads = files_may_pass off.mappings off.interrupted reads off.files

abbrev pub may_show : List Seen → Machine → Bool
may_show look off = volume_may_show off (volume_reads look) && (blocks_may_show off (block_reads look) && files_may_show off (file_reads look))
