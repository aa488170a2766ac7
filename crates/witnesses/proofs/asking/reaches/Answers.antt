-- The range of the bytes of a word is walked.
use Rattle.std.proofs.Common.{◌+◌, ◌*◌, refl, arith, rules, tests}
use Rattle.std.proofs.lemmas.Iterator.{YieldsList-from_range}
use Rattle.std.proofs.lemmas.Iterator.Search.{any_from_yields_List}
use Rattle.nvm_model.specs.Numbered.{is_among}
use Rattle.witnesses.proofs.asking.reaches.Goals as goal

pub returns : goal.returns
returns c =
    let p = c.args.p in
    any_from_yields_List (is_among c.args.start c.args.len) _ _ _ c.any.ensures.ran (YieldsList-from_range (8 * p) (8 * p + 8) 8 refl (omega arith)) (λ x b q k. search (rules, tests))
