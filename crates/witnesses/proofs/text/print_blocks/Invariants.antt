use Rattle.std.proofs.Common.{◌≡◌, ◌++◌, [], drop, take}
use Rattle.witnesses.specs.Texts.{block_text, same_block, texts_once}
use Rattle.witnesses.proofs.text.print_blocks.Given as goal

abbrev pub invariant-loop-i : goal.invariant-loop-i
invariant-loop-i l =
    l.out.items ++ texts_once same_block block_text (take l.i l.units) (drop l.i l.units) ≡ l.fn.out.items ++ texts_once same_block block_text [] l.units
