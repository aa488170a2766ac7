use Rattle.std.proofs.Common.{◌≡◌, ◌<◌, get_or, drop, Some, sym, ◌∙◌, arith, rules}
use Rattle.nvm_base.specs.Numbers.{number_of}
use Rattle.nvm_base.proofs.ReadingLemmas.{tail}
use Rattle.workload.proofs.SumLemmas.{wrapped-run}
use Rattle.workload.proofs.TextLemmas.{item_of-run}
use Rattle.workload.proofs.totals.item_total.Goals as goal

pub returns-in-Some : goal.returns-in-Some
returns-in-Some c =
    let star : get_or c.args.item.now 2 0 ≡ 42 = search rules in
    let some : 0 < c.in-Some.count = omega arith in
    let number : number_of (drop 3 c.args.item.now) ≡ Some c.in-Some.count = rw tail at (sym c.read_number.ensures ∙ c.in-Some.is) in
    sym (wrapped-run c.in_ok-byte-in-42.byte c.in-Some.count _
    (item_of-run c.args.item.now _ _ c.in-42.len_at_least star (sym c.byte_of.ensures ∙ c.in_ok-byte-in-42.was) number some))
