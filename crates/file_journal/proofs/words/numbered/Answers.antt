use Rattle.std.proofs.Common.{◌+◌, ◌++◌, [], ◌∷◌, length, take, get_or, ap, sym, ◌∙◌, arith}
use Rattle.std.proofs.lemmas.List.{take_more, length-take}
use Rattle.file_journal.specs.Changes.{numbered}
use Rattle.file_journal.proofs.WordLemmas.{numbered-append, length-numbered}
use Rattle.file_journal.proofs.words.numbered.Goals as goal

pub push-requires : goal.push-requires
push-requires c =
    let size = ap length c.loop-k.invariant ∙ length-numbered c.args.first (take c.loop-k.k c.args.values.now) in
    (omega arith, omega (arith, size, length-take c.loop-k.k c.args.values.now, c.requires.few, c.loop-k-test.true))

pub loop-k-preserved : goal.loop-k-preserved
loop-k-preserved c =
    let k = c.loop-k.k in
    let vs = c.args.values.now in
    let first = c.args.first in
    c.push.ensures.items
    ∙ ap (λ ws. ws ++ (first + k, get_or vs k 0) ∷ []) c.loop-k.invariant
    ∙ sym (numbered-append first (first + k) (take k vs) (get_or vs k 0 ∷ []) (omega (arith, length-take k vs, c.loop-k-test.true)))
    ∙ ap (numbered first) (sym (take_more vs k 0 c.loop-k-test.true))
