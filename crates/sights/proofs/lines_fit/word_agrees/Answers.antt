-- The range of the bytes of a word is walked.
use Rattle.std.proofs.Common.{◌||◌, ◌==◌, ◌-◌, ◌+◌, ◌*◌, ◌%◌, not, slice_index, refl, arith, rules, tests}
use Rattle.std.specs.Int.{byte_at}
use Rattle.std.proofs.lemmas.Iterator.{YieldsList-from_range}
use Rattle.std.proofs.lemmas.Iterator.Search.{all_from_yields_List}
use Rattle.nvm_model.specs.Numbered.{is_among}
use Rattle.sights.proofs.lines_fit.word_agrees.Goals as goal

pub returns : goal.returns
returns c =
    let read = c.args.read.now in
    let bytes = c.args.bytes.now in
    let p = c.args.p in
    let v = c.args.value in
    all_from_yields_List (λ i. not (is_among read.start read.len i) || (slice_index bytes (i - read.start) == byte_at (i % 8) v)) _ _ _ c.all.ensures.ran
    (YieldsList-from_range (8 * p) (8 * p + 8) 8 refl (omega arith)) (λ x b q k. search (rules, tests))
