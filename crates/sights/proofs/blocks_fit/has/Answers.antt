-- The range of the bytes of the block is walked.
use Rattle.std.proofs.Common.{◌==◌, ◌-◌, ◌+◌, ◌*◌, ◌%◌, slice_index, refl, sym, ap, ◌∙◌, arith, rules, tests}
use Rattle.std.proofs.lemmas.Iterator.{YieldsList-from_range}
use Rattle.std.proofs.lemmas.Iterator.Search.{all_from_yields_List}
use Rattle.asked_reads.specs.Fitting.{sight_has}
use Rattle.sights.proofs.blocks_fit.has.Goals as goal

pub returns-in-Ok : goal.returns-in-Ok
returns-in-Ok c =
    let first = c.args.first in
    let bytes = c.args.bytes.now in
    let b = c.args.b in
    all_from_yields_List (λ i. slice_index bytes (i - 512 * first) == slice_index c.in-Ok.seen.now (i % 512)) _ _ _ c.all.ensures.ran
    (YieldsList-from_range (512 * b) (512 * b + 512) 512 refl (omega arith)) (λ x b q k. search (rules, tests))
    ∙ sym (ap (λ block. sight_has first bytes b block) c.in-Ok.ensures.seen)
