use Rattle.std.proofs.Common.{arith}
use Rattle.std.proofs.lemmas.Fmt.{length-decimal-le}
use Rattle.reply_text.proofs.printing.print_two.Goals as goal

pub returns-in_err-print_counted-clause-short : goal.returns-in_err-print_counted-clause-short
returns-in_err-print_counted-clause-short c = omega (arith, length-decimal-le 20 c.args.second (omega arith) (omega arith) (omega arith), c.in_err-print_counted.ensures.short)
