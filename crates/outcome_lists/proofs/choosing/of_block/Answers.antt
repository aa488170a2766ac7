use Rattle.std.proofs.Common.{[], ◌∷◌, ◌++◌, ap, ap₂, sym, ◌∙◌}
use Rattle.std.proofs.lemmas.List.{map-append}
use Rattle.explorer.specs.AskedReads.declared.read.Read.TheVariants.{Blocks}
use Rattle.outcome_lists.specs.Asking.{choice_held, choices_held}
use Rattle.outcome_lists.specs.Choices.{block_choice, head}
use Rattle.outcome_lists.proofs.MappedLemmas.{mapped_next}
use Rattle.outcome_lists.proofs.choosing.of_block.Goals as goal

pub loop-block-preserved : goal.loop-block-preserved
loop-block-preserved c =
    let b = c.args.b in
    let old = c.loop-block.choices.items in
    ap choices_held c.in_ok-push.ensures.items
    ∙ map-append choice_held old (c.in_ok-block_choice.field-0 ∷ [])
    ∙ ap₂ (λ xs x. xs ++ x ∷ []) c.loop-block.invariant c.in_ok-block_choice.ensures
    ∙ sym (mapped_next (block_choice (head (Blocks b 1)) b) c.args.blocks.now c.loop-block.block-index _ c.loop-block-test.true c.block-item.is)
