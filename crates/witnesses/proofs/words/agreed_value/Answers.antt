-- The log is searched after the durable value.
use Rattle.std.proofs.Common.{◌≡◌, ◌==◌, ◌+◌, ◌*◌, ◌&&◌, false, Option, Bor, rules, tests, sym, ap, ◌∙◌}
use Rattle.std.specs.Option.{option_copied}
use Rattle.std.proofs.lemmas.Iterator.{YieldsList-from_slice}
use Rattle.std.proofs.lemmas.Iterator.Search.{find_from_yields_List}
use Rattle.line_histories.specs.declared.log.Stored.{Stored}
use Rattle.cut_places.specs.Outcomes.Pages.{all_agree}
use Rattle.witnesses.specs.Asked.{reads_in}
use Rattle.witnesses.proofs.ValueLemmas.{agreed_by, value_of}
use Rattle.witnesses.proofs.words.agreed_value.Goals as goal

pub returns-in-Some : goal.returns-in-Some
returns-in-Some c =
    let reads = reads_in c.args.asked.now in
    let p = 8 * c.args.n + c.args.w in
    let w = c.args.w in
    let log = c.values-durable.result.1.now in
    let none : all_agree reads p c.values-durable.result.0 ≡ false = cc in
    let first = find_from_yields_List (λ (stored : Stored). (stored.word == w) && all_agree reads p stored.value) _ _ c.find.result c.find.ensures.ran (YieldsList-from_slice log cc) (λ x b q k. search (rules, tests)) in
    agreed_by reads c.args.n w c.values-durable.result.0 _ log c.args.line.now c.values-durable.ensures none
    (ap (λ (o : Option (Bor Stored)). value_of (option_copied o)) (sym c.in-Some.is) ∙ ap value_of first)

pub returns-in-None : goal.returns-in-None
returns-in-None c =
    let reads = reads_in c.args.asked.now in
    let p = 8 * c.args.n + c.args.w in
    let w = c.args.w in
    let log = c.values-durable.result.1.now in
    let none : all_agree reads p c.values-durable.result.0 ≡ false = cc in
    let first = find_from_yields_List (λ (stored : Stored). (stored.word == w) && all_agree reads p stored.value) _ _ c.find.result c.find.ensures.ran (YieldsList-from_slice log cc) (λ x b q k. search (rules, tests)) in
    agreed_by reads c.args.n w c.values-durable.result.0 _ log c.args.line.now c.values-durable.ensures none
    (ap (λ (o : Option (Bor Stored)). value_of (option_copied o)) (sym c.in-None.is) ∙ ap value_of first)
