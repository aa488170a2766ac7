-- One more file is reported.
use Rattle.witnesses.specs.Texts.{same_size, size_text}
use Rattle.witnesses.proofs.TextLemmas.{told_next}
use Rattle.witnesses.proofs.text.print_sizes.Goals as goal

pub loop-i-preserved : goal.loop-i-preserved
loop-i-preserved c =
    told_next same_size size_text c.args.sizes.now c.loop-i.i c.index-sizes-i.result c.loop-i.out.items c.print_new_size.new.out.items _
    c.loop-i-test.true c.index-sizes-i.is c.in_ok-print_new_size.ensures c.loop-i.invariant
