use Rattle.std.proofs.Common.{arith}
use Rattle.nvm_base.proofs.RunLemmas.{length-data_text}
use Rattle.reply_text.proofs.data.print_text.Goals as goal

pub returns-in_err-extend-clause-short : goal.returns-in_err-extend-clause-short
returns-in_err-extend-clause-short c = omega (arith, length-data_text c.args.bytes.now)
