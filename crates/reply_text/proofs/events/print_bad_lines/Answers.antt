use Rattle.std.proofs.Common.{arith}
use Rattle.std.proofs.lemmas.Result.{err_from_is_err_and}
use Rattle.nvm_base.proofs.AppendLemmas.{Appended-as, Appends-stopped}
use Rattle.reply_text.proofs.EventTextLemmas.{length-offsets_text, offsets_text-more}
use Rattle.reply_text.proofs.events.print_bad_lines.Goals as goal

pub returns-in_err-print_counted-clause-short : goal.returns-in_err-print_counted-clause-short
returns-in_err-print_counted-clause-short c = omega (arith, length-offsets_text c.args.offsets.now c.know_offsets.ensures, c.in_err-print_counted.ensures.short)

pub returns-in_err-print_counted-2-clause-text : goal.returns-in_err-print_counted-2-clause-text
returns-in_err-print_counted-2-clause-text c =
    let loop = c.loop-offset in
    let p = err_from_is_err_and c.from_residual-in_err-print_counted-2.result c.from_residual-in_err-print_counted-2.ensures.1 in
    rw p.1 (Appends-stopped _ _ _ _ _ _ _ (Appended-as _ _ _ _ _ loop.invariant (offsets_text-more loop.offset-index _ c.args.offsets.now c.loop-offset-test.true)) c.in_err-print_counted-2.ensures.text)

pub returns-in_err-print_counted-2-clause-short : goal.returns-in_err-print_counted-2-clause-short
returns-in_err-print_counted-2-clause-short c = omega (arith, length-offsets_text c.args.offsets.now c.know_offsets.ensures, c.in_ok-print_counted.ensures.short)

pub returns-clause-short : goal.returns-clause-short
returns-clause-short c = omega (arith, length-offsets_text c.args.offsets.now c.know_offsets.ensures, c.in_ok-print_counted.ensures.short)
