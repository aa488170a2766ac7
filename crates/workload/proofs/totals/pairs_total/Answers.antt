use Rattle.std.proofs.Common.{◌≡◌, ◌%◌, ◌^◌, ◌<◌, lit<, sym, ◌∙◌, arith, get_or, sum}
use Rattle.nvm_base.specs.Data.{run, spelled}
use Rattle.nvm_base.proofs.ReadingLemmas.{pairs_of-bad, pairs_of-more, tail}
use Rattle.workload.proofs.SumLemmas.{Summed-bad, Summed-more, Summed-none, sum-run}
use Rattle.workload.proofs.TextLemmas.{pair_of-byte, pairs_end}
use Rattle.workload.proofs.totals.pairs_total.Goals as goal

pub loop-rest-init : goal.loop-rest-init
loop-rest-init c = record { summed = Summed-none _; fits = lit< tt }

pub returns-in_err-total : goal.returns-in_err-total
returns-in_err-total c =
    let bad = pairs_of-bad c.loop-rest.rest.now c.in-len2-up.len_at_least (sym c.byte_of.ensures ∙ c.in_err-total.was) in
    c.from_residual.ensures ∙ sym (Summed-bad _ _ _ c.loop-rest.invariant.summed bad)

pub loop-rest-preserved : goal.loop-rest-preserved
loop-rest-preserved c =
    let byte = c.in_ok-total.field-0 in
    let is = sym c.byte_of.ensures ∙ c.in_ok-total.was in
    let step = pairs_of-more c.loop-rest.rest.now byte c.in-len2-up.len_at_least is in
    let small : byte < 256 = pair_of-byte (get_or c.loop-rest.rest.now 0 0) (get_or c.loop-rest.rest.now 1 0) byte is in
    let sum_is = sum-run byte 1 in
    let more : byte ≡ sum (spelled (run byte 1)) % 2 ^ 64 = omega arith in
    rw tail (record { summed = Summed-more _ _ _ (run byte 1) _ _ c.loop-rest.invariant.summed step more; fits = omega arith })

pub returns : goal.returns
returns c =
    rw c.is_empty.ensures at c.then_some.ensures ∙ pairs_end c.args.pairs.now c.loop-rest.rest.now c.loop-rest.total c.loop-rest.invariant.summed c.loop-rest.invariant.fits c.in_default.len_below
