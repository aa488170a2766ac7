use Rattle.std.proofs.Common.{◌≡◌, ◌++◌, [], drop, take}
use Rattle.witnesses.specs.Texts.{same_size, size_text, texts_once}
use Rattle.witnesses.proofs.text.print_sizes.Given as goal

abbrev pub invariant-loop-i : goal.invariant-loop-i
invariant-loop-i l =
    l.out.items ++ texts_once same_size size_text (take l.i l.sizes) (drop l.i l.sizes) ≡ l.fn.out.items ++ texts_once same_size size_text [] l.sizes
