-- One more block is told.
use Rattle.witnesses.specs.Texts.{block_text, same_block}
use Rattle.witnesses.proofs.TextLemmas.{told_next}
use Rattle.witnesses.proofs.text.print_blocks.Goals as goal

pub loop-i-preserved : goal.loop-i-preserved
loop-i-preserved c =
    told_next same_block block_text c.args.units.now c.loop-i.i c.index-units-i.result c.loop-i.out.items c.print_new_block.new.out.items _
    c.loop-i-test.true c.index-units-i.is c.in_ok-print_new_block.ensures c.loop-i.invariant
