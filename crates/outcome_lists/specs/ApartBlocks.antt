-- Looks of several blocks, taken apart: where each block alone is shown, and, inside a command, where each group of them is wholly old or wholly new.
use Rattle.std.specs.Prelude.{◌≡◌, ◌==◌, ◌||◌, Bool, true, not, List, [], ◌∷◌, Option, Some, None}
use Rattle.std.specs.List.{AllByRecursion, list_all}
use Rattle.nvm_model.specs.Storage.{Block}
use Rattle.script_text.specs.Action.{Action}
use Rattle.explorer.specs.MachineModel.Commands.{meaning}
use Rattle.explorer.specs.MachineModel.Meaning.{BlocksLeft}
use Rattle.explorer.specs.MachineModel.Meaning.BlocksLeft.{Same, Either, Mixed}
use Rattle.explorer.specs.Outcomes.Blocks.{BlockRead, BlockReply, all_numbers_read, block_fits}
use Rattle.explorer.specs.Outcomes.Blocks.BlockReply.{Shows, Scar, BadLine, Refuses}
use Rattle.explorer.specs.Outcomes.Left.{blocks_may_pass}
use Rattle.outcome_lists.specs.Apart.{grouped}

-- the reply tells what is seen of a block
abbrev pub IsSight : BlockReply → Type 0
IsSight (Shows bytes) = Unit {0}
IsSight (Scar block) = Unit {0}
IsSight (BadLine block line) = Unit {0}
IsSight (Refuses why) = ⊥

-- a read is of one block, of which its reply tells, and so are all of these
abbrev pub IsOfOneBlock : BlockRead → Type 0
IsOfOneBlock r = (r.count ≡ 1) × IsSight r.reply

abbrev pub AreOfOneBlock : List BlockRead → Type 0
AreOfOneBlock reads = AllByRecursion IsOfOneBlock reads

-- two reads begin at the same block
abbrev pub is_same_block : BlockRead → BlockRead → Bool
is_same_block r s = r.first == s.first

-- no two of these do
abbrev pub AreDistinctBlocks : List BlockRead → Type 0
AreDistinctBlocks [] = Unit {0}
AreDistinctBlocks (r ∷ reads) = (list_all (λ s. not (is_same_block r s)) reads ≡ true) × AreDistinctBlocks reads

-- blocks show this read alone
abbrev pub shows_block : List Block → BlockRead → Bool
shows_block blocks r = blocks_may_pass None (block_fits (r ∷ [])) blocks (all_numbers_read (r ∷ []))

-- reads of which some are shown by the old blocks, some by the new ones, as such an interruption may leave them
abbrev pub blocks_apart : BlocksLeft → (BlockRead → Bool) → (BlockRead → Bool) → List BlockRead → Bool
blocks_apart Same old new reads = list_all old reads
blocks_apart Either old new reads = list_all old reads || list_all new reads
blocks_apart Mixed old new reads = grouped is_same_block old new reads

-- by what each read alone is shown, before the interrupted action and after it
abbrev pub blocks_shown_apart : Option Action → List Block → List BlockRead → Bool
blocks_shown_apart None blocks reads = list_all (shows_block blocks) reads
blocks_shown_apart (Some action) blocks reads =
    blocks_apart (meaning action).blocks_left (shows_block blocks) (shows_block ((meaning action).blocks blocks)) reads
