use Rattle.std.proofs.Common.{arith}
use Rattle.std.proofs.lemmas.Result.{err_from_is_err_and}
use Rattle.nvm_base.proofs.AppendLemmas.{Appended-as, Appends-stopped}
use Rattle.reply_text.proofs.RangeTextLemmas.{length-ranges_text, ranges_text-more}
use Rattle.reply_text.proofs.ranges.print_ranges.Goals as goal

pub returns-in_err-print_range-clause-text : goal.returns-in_err-print_range-clause-text
returns-in_err-print_range-clause-text c =
    let loop = c.loop-range in
    let p = err_from_is_err_and c.from_residual-in_err-print_range.result c.from_residual-in_err-print_range.ensures.1 in
    rw p.1 (Appends-stopped _ _ _ _ _ _ _ (Appended-as _ _ _ _ _ loop.invariant.text (ranges_text-more loop.offset loop.range-index c.args.ranges.now _ c.loop-range-test.true)) c.in_err-print_range.ensures)

pub returns-in_err-extend-clause-short : goal.returns-in_err-extend-clause-short
returns-in_err-extend-clause-short c = length-ranges_text 0 c.args.ranges.now c.know_starts.ensures (omega (arith, c.requires))

pub returns-in_err-print_range-clause-short : goal.returns-in_err-print_range-clause-short
returns-in_err-print_range-clause-short c = length-ranges_text 0 c.args.ranges.now c.know_starts.ensures (omega (arith, c.requires))

pub returns-clause-short : goal.returns-clause-short
returns-clause-short c = length-ranges_text 0 c.args.ranges.now c.know_starts.ensures (omega (arith, c.requires))
