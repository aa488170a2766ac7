use Rattle.std.proofs.Common.{◌==◌, lit<, sym, ◌∙◌, arith, rules, tests}
use Rattle.std.proofs.lemmas.List.{length_push}
use Rattle.std.proofs.lemmas.Iterator.Consumers.{YieldsList-turn, YieldsList-end}
use Rattle.std.proofs.lemmas.Iterator.Splits.{YieldsList-from_slice_split}
use Rattle.nvm_base.specs.Data.{runs_of}
use Rattle.nvm_base.proofs.ReadingLemmas.{items_of-all}
use Rattle.workload.proofs.SumLemmas.{Summed-all, Summed-item, Summed-none, Summed-refused}
use Rattle.workload.proofs.totals.total_of.Goals as goal

pub loop-item-init : goal.loop-item-init
loop-item-init c = record { summed = Summed-none _; fits = lit< tt }

pub returns-in_err-total : goal.returns-in_err-total
unfolding runs_of
returns-in_err-total c =
    let at = YieldsList-turn (YieldsList-from_slice_split _ (λ b. b == 44) c.args.text.now (cc) (cc) (cc) (λ x b q k. search (rules, tests))) c.loop-item.yielded _ c.loop-item.yielded_by _ _ c.in-Some.item c.in-Some.is c.next.ensures.steps in
    c.from_residual.ensures ∙ sym (Summed-refused _ _ _ _ _ c.loop-item.invariant.summed at (sym c.item_total.ensures ∙ c.in_err-total.was))

pub loop-item-preserved : goal.loop-item-preserved
loop-item-preserved c =
    let at = YieldsList-turn (YieldsList-from_slice_split _ (λ b. b == 44) c.args.text.now (cc) (cc) (cc) (λ x b q k. search (rules, tests))) c.loop-item.yielded _ c.loop-item.yielded_by _ _ c.in-Some.item c.in-Some.is c.next.ensures.steps in
    rw length_push (record {
      summed = Summed-item _ _ _ _ _ _ c.loop-item.invariant.summed at (sym c.item_total.ensures ∙ c.in_ok-total.was);
      fits = omega arith;
    })

pub returns : goal.returns
unfolding runs_of
returns c =
    let all = YieldsList-end (YieldsList-from_slice_split _ (λ b. b == 44) c.args.text.now (cc) (cc) (cc) (λ x b q k. search (rules, tests))) c.loop-item.yielded _ c.loop-item.yielded_by _ _ c.in-None.is c.next.ensures.steps in
    sym (Summed-all _ _ _ c.loop-item.invariant.summed (items_of-all _ _ all.1) c.loop-item.invariant.fits)
