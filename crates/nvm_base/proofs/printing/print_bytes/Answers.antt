use Rattle.nvm_base.proofs.RunLemmas.{length-data_text}
use Rattle.nvm_base.proofs.printing.print_bytes.Goals as goal

pub returns-then-is_err-clause-short : goal.returns-then-is_err-clause-short
returns-then-is_err-clause-short c = length-data_text c.args.bytes.now

pub returns-else-is_err-clause-short : goal.returns-else-is_err-clause-short
returns-else-is_err-clause-short c = length-data_text c.args.bytes.now
