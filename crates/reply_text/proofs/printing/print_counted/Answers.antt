use Rattle.std.proofs.Common.{arith}
use Rattle.std.proofs.lemmas.Fmt.{length-decimal-le}
use Rattle.reply_text.proofs.printing.print_counted.Goals as goal

pub returns-in_err-extend-clause-short : goal.returns-in_err-extend-clause-short
returns-in_err-extend-clause-short c = length-decimal-le 20 c.args.n (omega arith) (omega arith) (omega arith)
