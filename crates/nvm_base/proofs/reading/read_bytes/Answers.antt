use Rattle.std.proofs.Common.{rules, tests, ◌==◌, inr}
use Rattle.std.proofs.lemmas.List.{length_push}
use Rattle.std.proofs.lemmas.Iterator.Consumers.{YieldsList-turn, YieldsList-end}
use Rattle.std.proofs.lemmas.Result.{err_from_is_err_and}
use Rattle.std.proofs.lemmas.Iterator.Splits.{YieldsList-from_slice_split}
use Rattle.nvm_base.specs.Data.{data_within, runs_of}
use Rattle.nvm_base.proofs.SpellLemmas.{read_some, Spells-runs_of}
use Rattle.nvm_base.proofs.ReadingLemmas.{items_of-all, refused, Taken-item, Taken-refused, read_all, within-ok, within-long}
use Rattle.nvm_base.proofs.reading.read_bytes.Goals as goal

pub loop-item-preserved : goal.loop-item-preserved
loop-item-preserved c =
    let at = YieldsList-turn (YieldsList-from_slice_split _ (λ b. b == 44) c.args.text.now (cc) (cc) (cc) (λ x b q k. search (rules, tests))) c.loop-item.yielded _ c.loop-item.yielded_by _ _ c.in-Some.item c.in-Some.is c.next.ensures.steps in
    rw length_push (record {
      taken = Taken-item _ _ _ _ _ _ _ c.loop-item.invariant.taken at c.in_ok-take_item.ensures.ok;
      start = c.loop-item.invariant.start;
    })

pub returns-in_err-take_item-clause-err : goal.returns-in_err-take_item-clause-err
unfolding data_within runs_of
returns-in_err-take_item-clause-err c =
    let at = YieldsList-turn (YieldsList-from_slice_split _ (λ b. b == 44) c.args.text.now (cc) (cc) (cc) (λ x b q k. search (rules, tests))) c.loop-item.yielded _ c.loop-item.yielded_by _ _ c.in-Some.item c.in-Some.is c.next.ensures.steps in
    let p = err_from_is_err_and c.from_residual.result c.from_residual.ensures.1 in
    rw (p.1, p.2) (refused c.args.room _ _ _ (Taken-refused _ _ _ _ _ _ c.loop-item.invariant.taken at) c.in_err-take_item.ensures.err)

pub returns-in-Some-left-clause-ok : goal.returns-in-Some-left-clause-ok
unfolding data_within runs_of
returns-in-Some-left-clause-ok c =
    let all = YieldsList-end (YieldsList-from_slice_split _ (λ b. b == 44) c.args.text.now (cc) (cc) (cc) (λ x b q k. search (rules, tests))) c.loop-item.yielded _ c.loop-item.yielded_by _ _ c.in-None.is c.next.ensures.steps in
    let end = read_all c.args.room _ _ _ _ c.loop-item.invariant.taken (items_of-all _ _ all.1) c.loop-item.invariant.start in
    within-ok c.args.room _ _ c.in-Some-left.field-0 (rw c.in-Some-left.is at end)

pub returns-in-None-left-clause-err : goal.returns-in-None-left-clause-err
unfolding data_within runs_of
returns-in-None-left-clause-err c =
    let all = YieldsList-end (YieldsList-from_slice_split _ (λ b. b == 44) c.args.text.now (cc) (cc) (cc) (λ x b q k. search (rules, tests))) c.loop-item.yielded _ c.loop-item.yielded_by _ _ c.in-None.is c.next.ensures.steps in
    let end = read_all c.args.room _ _ _ _ c.loop-item.invariant.taken (items_of-all _ _ all.1) c.loop-item.invariant.start in
    inr (within-long c.args.room _ c.loop-item.reading.bytes.items (rw c.in-None-left.is at end))

pub returns-in-Some-left-clause-some : goal.returns-in-Some-left-clause-some
unfolding runs_of
returns-in-Some-left-clause-some c =
    let all = YieldsList-end (YieldsList-from_slice_split _ (λ b. b == 44) c.args.text.now (cc) (cc) (cc) (λ x b q k. search (rules, tests))) c.loop-item.yielded _ c.loop-item.yielded_by _ _ c.in-None.is c.next.ensures.steps in
    let end = read_all c.args.room _ _ _ _ c.loop-item.invariant.taken (items_of-all _ _ all.1) c.loop-item.invariant.start in
    read_some c.args.room _ _ c.in-Some-left.field-0 (Spells-runs_of c.args.text.now) (rw c.in-Some-left.is at end)
