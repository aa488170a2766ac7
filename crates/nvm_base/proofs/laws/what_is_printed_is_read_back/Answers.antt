use Rattle.std.proofs.Common.{arith}
use Rattle.nvm_base.proofs.DecimalLemmas.{number_of-decimal}
use Rattle.nvm_base.proofs.PrintedLemmas.{data_within-text}
use Rattle.nvm_base.proofs.laws.what_is_printed_is_read_back.Goals as goal

pub returns-clause-bytes : goal.returns-clause-bytes
returns-clause-bytes c bytes room some fits most small = data_within-text bytes some (omega arith) small room fits

pub returns-clause-number : goal.returns-clause-number
returns-clause-number c = number_of-decimal
