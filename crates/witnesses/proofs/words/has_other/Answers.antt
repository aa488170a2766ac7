-- The values of the log are asked after the durable one.
use Rattle.std.proofs.Common.{◌≡◌, ◌==◌, ◌&&◌, not, true, rules, tests}
use Rattle.std.proofs.lemmas.Iterator.{YieldsList-from_slice}
use Rattle.std.proofs.lemmas.Iterator.Search.{any_from_yields_List}
use Rattle.line_histories.specs.declared.log.Stored.{Stored}
use Rattle.witnesses.proofs.ValueLemmas.{other_by}
use Rattle.witnesses.proofs.words.has_other.Goals as goal

pub returns-else-durable-value : goal.returns-else-durable-value
returns-else-durable-value c =
    let w = c.args.w in
    let value = c.args.value in
    let durable = c.values-durable.result.0 in
    let log = c.values-durable.result.1.now in
    let others = any_from_yields_List (λ (stored : Stored). (stored.word == w) && not (stored.value == value)) _ _ _ c.any.ensures.ran (YieldsList-from_slice log cc) (λ x b q k. search (rules, tests)) in
    let same : (durable == value) ≡ true = search rules in
    other_by w durable value log c.args.line.now _ c.values-durable.ensures same others
