use Rattle.std.proofs.Common.{◌≡◌, map, take}
use Rattle.explorer.specs.AskedReads.declared.read.Read.TheVariants.{Blocks}
use Rattle.outcome_lists.specs.Asking.{choices_held}
use Rattle.outcome_lists.specs.Choices.{block_choice, head}
use Rattle.outcome_lists.proofs.choosing.of_block.Given as goal

abbrev pub invariant-loop-block : goal.invariant-loop-block
invariant-loop-block l = choices_held l.choices.items ≡ map (block_choice (head (Blocks l.b 1)) l.b) (take l.block-index l.blocks)
